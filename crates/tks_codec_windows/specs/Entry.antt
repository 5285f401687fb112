-- What an entry holds besides its options, as bytes (this project's own format).
use Rattle.std.specs.Int.{w32}
use Rattle.tks_opt.specs.Options.{Options}
use Rattle.tks_entry.specs.Entry.{Entry}
use Rattle.tks_spelling.specs.Spelling.{Spelling, number, text, field, through}

-- of an entry with these options the text, and the place at which the cursor was put last
abbrev pub entry : Options → Spelling Entry
entry options =
    field (λ e. e.text) text (λ chars.
    through (λ e. e.cursor) (λ cursor. record { options = options; text = chars; cursor = cursor }) (number w32))

-- What words come to, by what they were read as.
use Rattle.std.proofs.Common.{◌≡◌, ℕ, List, [], Result, Ok, Err, refl}
use Rattle.tks_text.specs.declared.fault.ScriptFault.{ScriptFault}
use Rattle.tks_opt.specs.Options.{Options, after, value_of, configured}
use Rattle.tks_opt.specs.declared.said.Said.{Said}
use Rattle.tks_opt.specs.declared.said.Said.TheVariants.{Text}
use Rattle.tks_listbox.specs.Listbox.{Listbox}
use Rattle.tks_listbox.specs.Commands.{Called, becomes, answers}

-- what a subcommand that all widgets have comes to, beside the other things of a listbox
abbrev beside : Listbox → Result (Said × Options) ScriptFault → Called
beside l r = after r (λ x. Ok (x.0, record l { options = x.1 }))

abbrev told_beside : Listbox → Result (List ℕ) ScriptFault → Called
told_beside l r = beside l (after r (λ value. Ok (Text value, l.options)))

abbrev set_beside : Listbox → Result Options ScriptFault → Called
set_beside l r = beside l (after r (λ u. Ok (Text [], u)))

-- the value of an option
pub value_told : (name : List ℕ) (l : Listbox) → told_beside l (value_of l.options name) ≡ after (value_of l.options name) (answers l)
value_told name l = by (value_of l.options name)
  where
    by : (r : Result (List ℕ) ScriptFault) → told_beside l r ≡ after r (answers l)
    by (Ok value) = refl
    by (Err fault) = refl

-- other values of options
pub all_configured : (pairs : List (List ℕ)) (l : Listbox) → set_beside l (configured l.options pairs) ≡ after (after (configured l.options pairs) (λ u. Ok (record l { options = u }))) becomes
all_configured pairs l = by (configured l.options pairs)
  where
    by : (r : Result Options ScriptFault) → set_beside l r ≡ after (after r (λ u. Ok (record l { options = u }))) becomes
    by (Ok u) = refl
    by (Err fault) = refl

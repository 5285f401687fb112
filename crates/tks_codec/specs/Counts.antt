-- The numbers in front of a world, as bytes (this project's own format): how many inputs were accepted, the clock, and the
-- next window, binding and timer. None is above 2^62, and the clock is below it.
use Rattle.std.specs.Prelude.{ℕ, ◌^◌, Bool, nat_le, nat_lt, List, [], ◌∷◌}
use Rattle.std.specs.Int.{w64}
use Rattle.tks_spelling.specs.Spelling.{Read, Spelling, number, such_that, field, through}
use Rattle.tks_spelling.specs.Writing.{flattened}
use Rattle.tks_codec.specs.declared.counts.Counts.{Counts}

abbrev pub is_count : ℕ → Bool
is_count n = nat_le n (2 ^ 62)

abbrev pub count : Spelling ℕ
count = such_that is_count (number w64)

abbrev pub is_time : ℕ → Bool
is_time n = nat_lt n (2 ^ 62)

abbrev pub time : Spelling ℕ
time = such_that is_time (number w64)

abbrev pub counts : Spelling Counts
counts =
    field (λ x. x.accepted) count (λ accepted.
    field (λ x. x.clock) time (λ clock.
    field (λ x. x.window) count (λ window.
    field (λ x. x.binding) count (λ binding.
    through (λ x. x.timer) (λ timer. record { accepted = accepted; clock = clock; window = window; binding = binding; timer = timer }) count))))

-- the spellings of the last three of them, and of all
abbrev pub next_parts : Counts → List (List ℕ)
next_parts x = count.write x.window ∷ count.write x.binding ∷ count.write x.timer ∷ []

abbrev pub counts_parts : Counts → List (List ℕ)
counts_parts x = count.write x.accepted ∷ time.write x.clock ∷ flattened (next_parts x) ∷ []

-- those at the front of bytes, and what stands behind them
unfoldable pub counts_at : List ℕ → Read Counts
counts_at bytes = counts.read bytes

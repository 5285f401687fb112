-- What words come to, by what they were read as.
use Rattle.std.proofs.Common.{◌≡◌, ℕ, List, [], Result, Ok, Err, refl}
use Rattle.tks_text.specs.declared.fault.ScriptFault.{ScriptFault}
use Rattle.tks_list.specs.Reading.{list_of}
use Rattle.tks_opt.specs.Options.{Options, after, value_of, configured}
use Rattle.tks_opt.specs.declared.said.Said.{Said}
use Rattle.tks_opt.specs.declared.said.Said.TheVariants.{Text}
use Rattle.tks_lines.specs.Lines.{Lines, inserted_with}
use Rattle.tks_lines.specs.Commands.{Called, becomes, answers, or_no_list}

-- what a subcommand that all widgets have comes to, beside the other things of a text widget
abbrev beside : Lines → Result (Said × Options) ScriptFault → Called
beside t r = after r (λ x. Ok (x.0, record t { options = x.1 }))

abbrev told_beside : Lines → Result (List ℕ) ScriptFault → Called
told_beside t r = beside t (after r (λ value. Ok (Text value, t.options)))

abbrev set_beside : Lines → Result Options ScriptFault → Called
set_beside t r = beside t (after r (λ u. Ok (Text [], u)))

-- the value of an option
pub value_told : (name : List ℕ) (t : Lines) → told_beside t (value_of t.options name) ≡ after (value_of t.options name) (λ text. answers text t)
value_told name t = by (value_of t.options name)
  where
    by : (r : Result (List ℕ) ScriptFault) → told_beside t r ≡ after r (λ text. answers text t)
    by (Ok value) = refl
    by (Err fault) = refl

-- other values of options
pub all_configured : (pairs : List (List ℕ)) (t : Lines) → set_beside t (configured t.options pairs) ≡ after (after (configured t.options pairs) (λ u. Ok (record t { options = u }))) becomes
all_configured pairs t = by (configured t.options pairs)
  where
    by : (r : Result Options ScriptFault) → set_beside t r ≡ after (after r (λ u. Ok (record t { options = u }))) becomes
    by (Ok u) = refl
    by (Err fault) = refl

-- characters with the tags of a list
pub with_tags_read : (place : ℕ) (more tags : List ℕ) (t : Lines)
    → after (or_no_list (list_of tags)) (λ names. becomes (inserted_with place more names t)) ≡ after (after (or_no_list (list_of tags)) (λ names. Ok (inserted_with place more names t))) becomes
with_tags_read place more tags t = by (or_no_list (list_of tags))
  where
    by : (r : Result (List (List ℕ)) ScriptFault) → after r (λ names. becomes (inserted_with place more names t)) ≡ after (after r (λ names. Ok (inserted_with place more names t))) becomes
    by (Ok names) = refl
    by (Err fault) = refl

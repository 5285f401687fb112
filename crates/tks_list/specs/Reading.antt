-- The list that a text splits into, read from left to right.
use Rattle.std.specs.Prelude.{ℕ, zero, suc, ◌+◌, ◌-◌, Bool, true, false, ◌==◌, ◌&&◌, not, List, [], ◌∷◌, ◌++◌, take, drop, Option, Some, None, if◌then◌else◌}
use Rattle.tks_text.specs.Backslash.{escape}
use Rattle.tks_text.specs.Integer.{is_space}
use Rattle.tks_text.specs.Run.{Step, stop, fails, takes, Run, run, on_run}
use Rattle.tks_list.specs.ListText.{ends_at}
use Rattle.tks_list.specs.declared.braces.Braces.{Braces}
use Rattle.tks_list.specs.declared.ends.Ends.{Ends}
use Rattle.tks_list.specs.declared.ends.Ends.TheVariants.{Space, Quote}
use Rattle.tks_list.specs.declared.fault.ListFault.{ListFault}
use Rattle.tks_list.specs.declared.fault.ListFault.TheVariants.{NotAList}

-- ---- braces

-- a closing brace, which ends the element where no other is open
abbrev pub close_brace : ℕ → Option Braces
close_brace zero = None
close_brace (suc held) = Some (record { held = held; is_quoted = false })

-- the braces open behind one more character, or nothing where it closes the outer one
abbrev pub brace_after : Braces → ℕ → Option Braces
brace_after b c =
    if b.is_quoted then Some (record { held = b.held; is_quoted = false })
    else (if c == 125 then close_brace b.held
    else (if c == 123 then Some (record { held = b.held + 1; is_quoted = false })
    else Some (record { held = b.held; is_quoted = c == 92 })))

abbrev pub no_braces : Braces
no_braces = record { held = 0; is_quoted = false }

abbrev pub onward : ℕ → Option Braces → (Braces → Option ℕ) → Option ℕ
onward n None go = Some n
onward n (Some b) go = go b

-- the place of the brace that closes the outer one, where n bytes stand before the text
abbrev pub closing_brace : ℕ → Braces → List ℕ → Option ℕ
closing_brace n b [] = None
closing_brace n b (c ∷ u) = onward n (brace_after b c) (λ b. closing_brace (n + 1) b u)

-- ---- characters

abbrev pub escape_step : Option (ℕ × ℕ) → Step ListFault (List ℕ)
escape_step None = fails NotAList
escape_step (Some x) = takes (λ e. x.0 ∷ e) x.1

unfoldable pub char_step : Ends → List ℕ → Step ListFault (List ℕ)
char_step ends [] = stop
char_step ends (c ∷ u) =
    if ends_at ends c then stop
    else (if c == 92 then escape_step (escape u)
    else takes (λ e. c ∷ e) 0)

-- whether a character of an element is neither its end nor a backslash
abbrev pub stands_for_itself : Ends → ℕ → Bool
stands_for_itself ends c = not (ends_at ends c) && not (c == 92)

unfoldable pub chars_at : Ends → List ℕ → Run ListFault (List ℕ)
chars_at ends t = run [] (char_step ends) 0 t

-- ---- elements

-- whether an element in braces or quotes may end before this text
abbrev pub may_end : List ℕ → Bool
may_end [] = true
may_end (c ∷ v) = is_space c

-- an element of n bytes behind its first, where its closing quote or brace may stand before this text
abbrev pub behind_close : List ℕ → ℕ → List ℕ → Step ListFault (List (List ℕ))
behind_close e n v = if may_end v then takes (λ l. e ∷ l) n else fails NotAList

abbrev pub braced_element : Option ℕ → List ℕ → Step ListFault (List (List ℕ))
braced_element None u = fails NotAList
braced_element (Some n) u = behind_close (take n u) (n + 1) (drop (n + 1) u)

abbrev pub quoted_element : List ℕ → ℕ → List ℕ → Step ListFault (List (List ℕ))
quoted_element e n [] = fails NotAList
quoted_element e n (c ∷ v) = behind_close e (suc n) v

unfoldable pub quoted_step : List ℕ → Step ListFault (List (List ℕ))
quoted_step u = on_run (chars_at Quote u) (λ e n. quoted_element e n (drop n u))

unfoldable pub bare_step : List ℕ → Step ListFault (List (List ℕ))
bare_step t = on_run (chars_at Space t) (λ e n. takes (λ l. e ∷ l) (n - 1))

unfoldable pub element_step : List ℕ → Step ListFault (List (List ℕ))
element_step [] = stop
element_step (c ∷ u) =
    if is_space c then takes (λ l. [] ++ l) 0
    else (if c == 123 then braced_element (closing_brace 0 no_braces u) u
    else (if c == 34 then quoted_step u
    else bare_step (c ∷ u)))

unfoldable pub elements_at : List ℕ → Run ListFault (List (List ℕ))
elements_at t = run [] element_step 0 t

abbrev pub without_fault : List (List ℕ) → Option ListFault → Option (List (List ℕ))
without_fault l None = Some l
without_fault l (Some f) = None

-- the list that a text splits into, if it splits into one
unfoldable pub list_of : List ℕ → Option (List (List ℕ))
list_of t = let r = elements_at t in without_fault r.items r.fault

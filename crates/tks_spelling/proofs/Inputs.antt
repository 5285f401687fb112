-- What holds of the spellings of inputs.
use Rattle.std.proofs.Common.{◌≡◌, ℕ, ◌<◌, List, length, ◌==◌, refl, sym, ap, ◌∙◌, arith}
use Rattle.std.specs.Int.{w16, w64}
use Rattle.std.proofs.lemmas.Bool.{eqb-true}
use Rattle.tks_input.specs.declared.input.Input.{Input}
use Rattle.tks_input.specs.declared.input.Input.TheVariants.{Script, KeyPress, KeyRelease, Press, Release, Clock, Turn, Rules}
use Rattle.tks_spelling.specs.Spelling.{Lawful, such_that, byte, number, text}
use Rattle.tks_spelling.specs.Input.{text_of, button_of, x_of, y_of, time_of, rules_of, tag_of, of_text, of_button, of_time, of_rules, behind_tag, is_tag, input, IsInput}
use Rattle.tks_spelling.proofs.EachKind.{no_bytes_lawful, none_lawful, byte_lawful, wide16, wide64, number_lawful, test_lawful, which_lawful, which_told, field_lawful, through_lawful, text_lawful}

of_text_lawful : (make : List ℕ → Input) → ((t : List ℕ) → text_of (make t) ≡ t) → Lawful (of_text make)
of_text_lawful make told = through_lawful text_of make text (λ t k. told t) text_lawful

of_button_lawful : (make : ℕ → ℕ → ℕ → Input) → ((b x y : ℕ) → (button_of (make b x y) ≡ b) × (x_of (make b x y) ≡ x) × (y_of (make b x y) ≡ y)) → Lawful (of_button make)
of_button_lawful make told =
    field_lawful button_of byte _ (λ b v k h. ap button_of h.1.1 ∙ (told b (x_of v) (y_of v)).0) byte_lawful (λ b.
    field_lawful x_of (number w16) _ (λ x v k h. ap x_of h.1 ∙ (told b x (y_of v)).1) (number_lawful w16 wide16) (λ x.
    through_lawful y_of (λ y. make b x y) (number w16) (λ y k. (told b x y).2) (number_lawful w16 wide16)))

of_time_lawful : (make : ℕ → Input) → ((t : ℕ) → time_of (make t) ≡ t) → Lawful (of_time make)
of_time_lawful make told = through_lawful time_of make (number w64) (λ t k. told t) (number_lawful w64 wide64)

of_rules_lawful : Lawful of_rules
of_rules_lawful = through_lawful rules_of (λ number. Rules number) byte (λ n k. refl) byte_lawful

behind_tag_lawful : (tag : ℕ) → Lawful (behind_tag tag)
behind_tag_lawful tag =
    which_lawful (tag == 1) (of_text_lawful (λ t. Script t) (λ t. refl))
    (which_lawful (tag == 2) (of_text_lawful (λ t. KeyPress t) (λ t. refl))
    (which_lawful (tag == 3) (of_text_lawful (λ t. KeyRelease t) (λ t. refl))
    (which_lawful (tag == 4) (of_button_lawful (λ b x y. Press b x y) (λ b x y. (refl, refl, refl)))
    (which_lawful (tag == 5) (of_button_lawful (λ b x y. Release b x y) (λ b x y. (refl, refl, refl)))
    (which_lawful (tag == 6) (of_time_lawful (λ t. Clock t) (λ t. refl))
    (which_lawful (tag == 7) (no_bytes_lawful Turn)
    (which_lawful (tag == 8) of_rules_lawful none_lawful)))))))

-- an input behind a tag has that tag
tag_told : (tag : ℕ) (v : Input) → ((such_that is_tag byte).Legal tag) → (behind_tag tag).Legal v → tag_of v ≡ tag
tag_told tag v k =
    which_told _ _ (tag == 1) v (λ e h. ap tag_of h.1 ∙ sym (eqb-true tag 1 e))
    (which_told _ _ (tag == 2) v (λ e h. ap tag_of h.1 ∙ sym (eqb-true tag 2 e))
    (which_told _ _ (tag == 3) v (λ e h. ap tag_of h.1 ∙ sym (eqb-true tag 3 e))
    (which_told _ _ (tag == 4) v (λ e h. ap tag_of h.1.1.1 ∙ sym (eqb-true tag 4 e))
    (which_told _ _ (tag == 5) v (λ e h. ap tag_of h.1.1.1 ∙ sym (eqb-true tag 5 e))
    (which_told _ _ (tag == 6) v (λ e h. ap tag_of h.1 ∙ sym (eqb-true tag 6 e))
    (which_told _ _ (tag == 7) v (λ e h. ap tag_of h ∙ sym (eqb-true tag 7 e))
    (which_told _ _ (tag == 8) v (λ e h. ap tag_of h.1 ∙ sym (eqb-true tag 8 e)) (λ h. absurd h))))))))

pub input_lawful : Lawful input
input_lawful = field_lawful tag_of _ behind_tag tag_told (test_lawful is_tag byte (λ v h. omega arith) byte_lawful) behind_tag_lawful

pub input_legal : (i : Input) → IsInput i → input.Legal i
input_legal (Script t) h = ((omega arith, refl), (h, refl))
input_legal (KeyPress t) h = ((omega arith, refl), (h, refl))
input_legal (KeyRelease t) h = ((omega arith, refl), (h, refl))
input_legal (Press b x y) h = ((omega arith, refl), (omega (arith, h.0), (h.1, (h.2, refl))))
input_legal (Release b x y) h = ((omega arith, refl), (omega (arith, h.0), (h.1, (h.2, refl))))
input_legal (Clock t) h = ((omega arith, refl), (h, refl))
input_legal Turn h = ((omega arith, refl), refl)
input_legal (Rules n) h = ((omega arith, refl), (omega (arith, h), refl))

pub input_filled : (i : Input) → 0 < length (input.write i)
input_filled i = omega arith

-- What holds of the spellings of events.
use Rattle.std.proofs.Common.{◌≡◌, ℕ, ℤ, ◌<◌, ◌^◌, List, ◌++◌, Result, refl, sym, ap, subst, FitsSigned, arith}
use Rattle.std.specs.Int.{w64, cast_unsigned, cast_signed}
use Rattle.std.proofs.Math.Facts.{to_z-of_z, Fits-of_z}
use Rattle.tks_event.specs.Event.{Event}
use Rattle.std.specs.declared.alloc.AllocError.{AllocError}
use Rattle.tks_spelling.specs.Writing.{PutsSo}
use Rattle.tks_spelling.specs.Spelling.{Lawful, signed, text}
use Rattle.tks_spelling.proofs.EachKind.{wide64, number_lawful, test_lawful, field_lawful, through_lawful, signed64_lawful, text_lawful}
use Rattle.tks_event.specs.Legality.{is_event}
use Rattle.tks_codec_events.specs.Event.{fields, event, HasPlaces}
use Rattle.tks_codec_events.proofs.Sequencing.{kind_lawful, kind_legal, modifiers_lawful, modifiers_legal}

fields_lawful : Lawful fields
fields_lawful =
    field_lawful (λ e. e.window) _ _ (λ window e k h. ap (λ (e : Event). e.window) h.1.1.1.1.1.1.1.1.1) (number_lawful w64 wide64) (λ window.
    field_lawful (λ e. e.kind) _ _ (λ kind e k h. ap (λ (e : Event). e.kind) h.1.1.1.1.1.1.1.1) kind_lawful (λ kind.
    field_lawful (λ e. e.detail) _ _ (λ detail e k h. ap (λ (e : Event). e.detail) h.1.1.1.1.1.1.1) text_lawful (λ detail.
    field_lawful (λ e. e.state) _ _ (λ state e k h. ap (λ (e : Event). e.state) h.1.1.1.1.1.1) modifiers_lawful (λ state.
    field_lawful (λ e. e.time) _ _ (λ time e k h. ap (λ (e : Event). e.time) h.1.1.1.1.1) (number_lawful w64 wide64) (λ time.
    field_lawful (λ e. e.x) _ _ (λ x e k h. ap (λ (e : Event). e.x) h.1.1.1.1) signed64_lawful (λ x.
    field_lawful (λ e. e.y) _ _ (λ y e k h. ap (λ (e : Event). e.y) h.1.1.1) signed64_lawful (λ y.
    field_lawful (λ e. e.root_x) _ _ (λ root_x e k h. ap (λ (e : Event). e.root_x) h.1.1) signed64_lawful (λ root_x.
    field_lawful (λ e. e.root_y) _ _ (λ root_y e k h. ap (λ (e : Event). e.root_y) h.1) signed64_lawful (λ root_y.
    through_lawful (λ e. e.payload) _ _ (λ payload k. refl) text_lawful)))))))))

pub event_lawful : Lawful event
event_lawful = test_lawful is_event fields (λ v h. omega arith) fields_lawful

signed_legal : (z : ℤ) → FitsSigned w64 z → (signed w64).Legal z
signed_legal z h = (omega (arith, Fits-of_z h), sym (to_z-of_z h))

pub fields_legal : (e : Event) → e.window < 2 ^ 64 → e.state < 8_192 → e.time < 2 ^ 64 → HasPlaces e → text.Legal e.detail → text.Legal e.payload → fields.Legal e
fields_legal e w s t p d l =
    (w, (kind_legal e.kind, (d, (modifiers_legal e.state s, (t, (signed_legal e.x p.0, (signed_legal e.y p.1, (signed_legal e.root_x p.2, (signed_legal e.root_y p.3, (l, refl))))))))))

-- an integer that was read is the integer
module _ (old new : List ℕ) (z : ℤ) (fits : FitsSigned w64 z) where
  pub as_read : new ≡ old ++ (signed w64).write (cast_signed w64 (cast_unsigned w64 z)) → new ≡ old ++ (signed w64).write z
  as_read e = subst (λ y. new ≡ old ++ (signed w64).write y) (to_z-of_z fits) e

pub as_put : (r : Result (Unit {0}) AllocError) (old new : List ℕ) (z : ℤ) → FitsSigned w64 z → PutsSo r old new ((signed w64).write (cast_signed w64 (cast_unsigned w64 z))) → PutsSo r old new ((signed w64).write z)
as_put r old new z fits p = subst (λ y. PutsSo r old new ((signed w64).write y)) (to_z-of_z fits) p

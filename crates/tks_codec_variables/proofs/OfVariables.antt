-- What holds of the spellings of variables and procedures.
use Rattle.std.proofs.Common.{◌≡◌, ℕ, ◌==◌, refl, sym, ap, ◌∙◌, arith}
use Rattle.std.proofs.lemmas.Bool.{eqb-true}
use Rattle.tks_vars.specs.Variables.{Variables}
use Rattle.tks_vars.specs.declared.content.Content.{Content}
use Rattle.tks_vars.specs.declared.content.Content.TheVariants.{Scalar, Array}
use Rattle.tks_vars.specs.declared.procedure.Parameter.{Parameter}
use Rattle.tks_vars.specs.declared.procedure.Procedure.{Procedure}
use Rattle.tks_spelling.specs.Spelling.{Lawful, byte, is_flag, such_that, text, none, which}
use Rattle.tks_spelling.proofs.EachKind.{byte_lawful, test_lawful, which_lawful, which_told, none_lawful, field_lawful, through_lawful, option_lawful, list_lawful, text_lawful}
use Rattle.tks_codec_variables.specs.Table.{table}
use Rattle.tks_codec_variables.specs.Globals.{tag_of, value_of, elements_of, scalar, array, behind_tag, content}
use Rattle.tks_codec_variables.specs.Procedures.{parameter, procedure}
use Rattle.tks_codec_variables.specs.Variables.{globals, procedures, variables}
use Rattle.tks_codec_variables.proofs.OfTables.{table_lawful}

scalar_lawful : Lawful scalar
scalar_lawful = through_lawful value_of (λ value. Scalar value) text (λ value k. refl) text_lawful

array_lawful : Lawful array
array_lawful = through_lawful elements_of (λ elements. Array elements) (table text) (λ elements k. refl) (table_lawful text text_lawful)

-- what stands behind a tag has this tag
tag_told : (tag : ℕ) (c : Content) → (behind_tag tag).Legal c → tag_of c ≡ tag
tag_told tag c =
    which_told scalar (which (tag == 1) array none) (tag == 0) c (λ e h. ap tag_of h.1 ∙ sym (eqb-true tag 0 e))
    (which_told array none (tag == 1) c (λ e h. ap tag_of h.1 ∙ sym (eqb-true tag 1 e)) (λ h. absurd h))

content_lawful : Lawful content
content_lawful =
    field_lawful tag_of (such_that is_flag byte) behind_tag (λ tag c k. tag_told tag c) (test_lawful is_flag byte (λ v h. omega arith) byte_lawful) (λ tag.
    which_lawful (tag == 0) scalar_lawful (which_lawful (tag == 1) array_lawful none_lawful))

parameter_lawful : Lawful parameter
parameter_lawful =
    field_lawful (λ p. p.name) _ _ (λ name p k h. ap (λ (p : Parameter). p.name) h.1) text_lawful (λ name.
    through_lawful (λ p. p.default) _ _ (λ default k. refl) (option_lawful text text_lawful))

procedure_lawful : Lawful procedure
procedure_lawful =
    field_lawful (λ p. p.params) _ _ (λ params p k h. ap (λ (p : Procedure). p.params) h.1) (list_lawful (λ before. parameter) (λ before. parameter_lawful)) (λ params.
    through_lawful (λ p. p.body) _ _ (λ body k. refl) text_lawful)

pub globals_lawful : Lawful globals
globals_lawful = table_lawful content content_lawful

pub procedures_lawful : Lawful procedures
procedures_lawful = table_lawful procedure procedure_lawful

pub variables_lawful : Lawful variables
variables_lawful =
    field_lawful (λ v. v.globals) _ _ (λ globals v k h. ap (λ (v : Variables). v.globals) h.1) globals_lawful (λ globals.
    through_lawful (λ v. v.procedures) _ _ (λ procedures k. refl) procedures_lawful)

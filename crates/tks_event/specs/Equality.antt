-- Tests whether patterns are equal.
use Rattle.std.specs.Prelude.{Bool, ◌&&◌, nat_eq, List}
use Rattle.std.specs.Cmp.Lexicographic.{pointwise}
use Rattle.std.proofs.Math.Bool.{beq}
use Rattle.tks_text.specs.Text.{same_text}
use Rattle.tks_event.specs.declared.pattern.Pattern.{Pattern}
use Rattle.tks_event.specs.declared.kind.Kind.{Kind}
use Rattle.tks_event.specs.contracts.kind.Kind.{the_type}
use denote.Enum.Bare.{sameb}

abbrev pub equal_kind : Kind → Kind → Bool
equal_kind = sameb the_type

abbrev pub equal_pattern : Pattern → Pattern → Bool
equal_pattern p q = beq p.near q.near && (equal_kind p.kind q.kind && (nat_eq p.modifiers q.modifiers && same_text p.detail q.detail))

abbrev pub equal_patterns : List Pattern → List Pattern → Bool
equal_patterns = pointwise equal_pattern

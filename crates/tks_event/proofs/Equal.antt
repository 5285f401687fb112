-- The tests of equality decide it.
use Rattle.std.proofs.Common.{◌≡◌, nat_eq, ℕ, Bool, List, ap}
use Rattle.std.specs.Bool.{Decides}
use Rattle.std.specs.Cmp.{booleans_Decides}
use Rattle.std.specs.Cmp.Lexicographic.{pointwise_decides, bytes_decides}
use Rattle.std.proofs.Math.Bool.{beq}
use Rattle.std.proofs.lemmas.Bool.Decides.{Decides-and, Decides-like, Decides-eqb}
use Rattle.tks_text.specs.Text.{same_text}
use Rattle.tks_event.specs.Equality.{equal_kind, equal_pattern, equal_patterns}
use Rattle.tks_event.specs.declared.pattern.Pattern.{Pattern}
use Rattle.tks_event.specs.declared.kind.Kind.{Kind}
use Rattle.tks_event.specs.contracts.kind.Kind.{the_type}
use denote.Enum.Bare.{same_true, true_same}

kind_decides : (k l : Kind) → Decides (equal_kind k l) (k ≡ l)
kind_decides k l = (λ e. same_true the_type tt k l e, true_same the_type k l)

abbrev Fields : Pattern → Pattern → Type 0
Fields p q = (p.near ≡ q.near) × ((p.kind ≡ q.kind) × ((p.modifiers ≡ q.modifiers) × (p.detail ≡ q.detail)))

made : {a b : Bool} {k l : Kind} {m n : ℕ} {s t : List ℕ} → a ≡ b → k ≡ l → m ≡ n → s ≡ t
    → ◌≡◌ {A = Pattern} (record { near = a; kind = k; modifiers = m; detail = s }) (record { near = b; kind = l; modifiers = n; detail = t })
made e f g h = cc

joined : (p q : Pattern) → Fields p q → p ≡ q
joined p q (n, (k, (m, d))) = made n k m d

parted : (p q : Pattern) → p ≡ q → Fields p q
parted p q e = (ap (λ r. r.near) e, (ap (λ r. r.kind) e, (ap (λ r. r.modifiers) e, ap (λ r. r.detail) e)))

pub pattern_decides : (p q : Pattern) → Decides (equal_pattern p q) (p ≡ q)
pattern_decides p q =
    Decides-like _ (joined p q) (parted p q) (
    Decides-and (beq p.near q.near) _ (booleans_Decides p.near q.near) (
    Decides-and (equal_kind p.kind q.kind) _ (kind_decides p.kind q.kind) (
    Decides-and (nat_eq p.modifiers q.modifiers) (same_text p.detail q.detail) (Decides-eqb p.modifiers q.modifiers) (bytes_decides p.detail q.detail)
    )
    )
    )

pub equal_so : (ps qs : List Pattern) → Decides (equal_patterns ps qs) (ps ≡ qs)
equal_so ps qs = pointwise_decides {E = equal_pattern} pattern_decides ps qs

-- Elements that join a text that is spelled as lists are.
use Rattle.std.proofs.Common.{◌≡◌, ℕ, Bool, true, List, [], ◌∷◌, ◌++◌, Option, Some, None, refl, sym, subst, ap, ◌∙◌, append_assoc}
use Rattle.std.specs.Prelude.{IfSome}
use Rattle.std.proofs.lemmas.Option.{same_Some}
use Rattle.tks_list.specs.Quoting.{quoted, spaced, joined}
use Rattle.tks_list.specs.Reading.{list_of}
use Rattle.tks_list.specs.Growing.{IsSpelled, AreElements, TakesElements, grown}
use Rattle.tks_list.specs.Keeping.{IsLonger, GrowsSo}
use Rattle.tks_list.specs.ListText.{Splits}
use Rattle.tks_list.proofs.Joined.{joined_splits}
use Rattle.tks_list.proofs.Told.{splits_one}

spaced_more : (l more : List (List ℕ)) → spaced (l ++ more) ≡ spaced l ++ spaced more
spaced_more [] more = refl
spaced_more (e ∷ l) more = ap (λ t. 32 ∷ quoted e ++ t) (spaced_more l more) ∙ ap (λ t. 32 ∷ t) (sym (append_assoc (quoted e) (spaced l) (spaced more)))

joined_more : (e : List ℕ) (l more : List (List ℕ)) → joined (e ∷ l) ++ spaced more ≡ joined (e ∷ (l ++ more))
joined_more e l more = append_assoc (quoted e) (spaced l) (spaced more) ∙ ap (λ t. quoted e ++ t) (sym (spaced_more l more))

joined_read : (l : List (List ℕ)) → list_of (joined l) ≡ Some l
joined_read l = (splits_one (joined l) l).0 (joined_splits l)

-- with elements behind it, it is spelled as lists are
pub spelled_more : (t more new : List ℕ) → IsSpelled t → AreElements more → new ≡ t ++ more → IsSpelled new
spelled_more t more new s m is = (s.0, s.1 ++ m.0, is ∙ ap (λ u. u ++ more) s.2 ∙ ap (λ u. joined (s.0 ∷ s.1) ++ u) m.1 ∙ joined_more s.0 s.1 m.0)

-- and these join its list
pub takes_elements : (t : List ℕ) → IsSpelled t → TakesElements t
takes_elements t s elements =
    ap (λ u. grown (list_of u) elements) s.2 ∙ ap (λ o. grown o elements) (joined_read (s.0 ∷ s.1))
    ∙ ap Some (sym (joined_more s.0 s.1 elements) ∙ ap (λ u. u ++ spaced elements) (sym s.2))

-- ---- a list that is kept

spaced_splits : (l : List (List ℕ)) → Splits (spaced l) l
spaced_splits [] = tt
spaced_splits (e ∷ l) =
    let s = joined_splits (e ∷ l) in
    let before = s.2 in
    (s.0, s.1, (32 ∷ before.0, ap (λ u. 32 ∷ u) before.1, (refl, before.2)), s.3, s.4, s.5)

spaced_read : (l : List (List ℕ)) → list_of (spaced l) ≡ Some l
spaced_read l = (splits_one (spaced l) l).0 (spaced_splits l)

-- with the elements behind it, it is the list of the text with these behind it
longer_read : (t more new : List ℕ) (l after : List (List ℕ)) → IsSpelled t → AreElements more → new ≡ t ++ more → list_of t ≡ Some l → IsLonger l more after → list_of new ≡ Some after
longer_read t more new l after s m is read longer =
    let same : longer.elements ≡ m.0 = same_Some longer.elements m.0 (sym longer.is_read ∙ ap list_of m.1 ∙ spaced_read m.0) in
    let text : joined (l ++ m.0) ≡ t ++ spaced m.0 = same_Some _ _ (ap (λ o. grown o m.0) (sym read) ∙ takes_elements t s m.0) in
    ap list_of (is ∙ ap (λ u. t ++ u) m.1 ∙ sym text) ∙ joined_read (l ++ m.0) ∙ ap Some (ap (λ e. l ++ e) (sym same) ∙ sym longer.now)

pub kept_longer : (old o : Option (List (List ℕ))) (joins : Bool) (t more new : List ℕ) → (joins ≡ true → IsSpelled t) → (joins ≡ true → AreElements more) → new ≡ t ++ more
    → IfSome old (λ l. list_of t ≡ Some l) → IfSome o (λ l. GrowsSo old joins more l) → IfSome o (λ l. list_of new ≡ Some l)
kept_longer old None joins t more new s m is read grows = tt
kept_longer old (Some after) joins t more new s m is read grows =
    longer_read t more new grows.before after (s grows.joined) (m grows.joined) is (subst (λ o. IfSome o (λ l. list_of t ≡ Some l)) grows.was read) grows.longer

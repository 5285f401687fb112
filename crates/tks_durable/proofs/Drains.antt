-- One turn more.
use Rattle.std.proofs.Common.{◌≡◌, ℕ, ◌+◌, List, [], ◌∷◌, ◌++◌, length, refl, sym, ap, ◌∙◌, subst, append_assoc, append-nil, length-append}
use Rattle.std.specs.List.{FoldsTo}
use Rattle.tks_input.specs.declared.reply.Reply.{Reply}
use Rattle.tks_durable.specs.Draining.{DrainsFar, Turns, TurnsTo, turned}
use Rattle.tks_durable.specs.Machine.{Meaning}
use Rattle.tks_durable.specs.Durable.{DurableState}

module _ {D F M W : Type 0} (tells : F → Reply → F → Type 0) (m : Meaning W) (old now new : DurableState D M W) (told told' told'' : F) (done : ℕ) where
  pub one_more : (reply : Reply) → Turns m now new.world reply → new ≡ turned now new.world → tells told' reply told''
      → DrainsFar tells m old now told told' done → DrainsFar tells m old new told told'' (done + 1)
  one_more reply turn so tell far = record {
    replies = far.replies ++ reply ∷ [];
    count = length-append far.replies (reply ∷ []) ∙ ap (λ n. n + 1) far.count;
    leads = λ others last leads.
        subst (λ l. TurnsTo m old l last) (sym (append_assoc far.replies (reply ∷ []) others))
        (far.leads (reply ∷ others) last (new.world, turn, subst (λ s. TurnsTo m s others last) so leads));
    told_so = λ others last folds.
        subst (λ l. FoldsTo tells told l last) (sym (append_assoc far.replies (reply ∷ []) others))
        (far.told_so (reply ∷ others) last (told'', tell, folds));
  }

  -- what is so far is all
  pub all_so_far : DrainsFar tells m old now told told' done → (replies : List Reply) × (length replies ≡ done) × TurnsTo m old replies now × FoldsTo tells told replies told'
  all_so_far far = (
    far.replies,
    far.count,
    subst (λ l. TurnsTo m old l now) (append-nil far.replies) (far.leads [] now refl),
    subst (λ l. FoldsTo tells told l told') (append-nil far.replies) (far.told_so [] told' refl),
  )

-- turns make no call of the disk
pub turns_keep : {D M W : Type 0} (m : Meaning W) (old new : DurableState D M W) (replies : List Reply) → TurnsTo m old replies new → new.journal ≡ old.journal
turns_keep m old new [] same = ap (λ s. s.journal) same
turns_keep m old new (reply ∷ replies) leads = turns_keep m (turned old leads.0) new replies leads.2

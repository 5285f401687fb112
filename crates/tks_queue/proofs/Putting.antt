-- Where events are put.
use Rattle.std.specs.List.{insert, list_all}
use Rattle.std.proofs.Common.{◌≡◌, ◌≤◌, ◌+◌, ◌-◌, if◌then◌else◌, ◌⊎◌, inl, inr, ℕ, suc, not, Bool, true, false, List, [], ◌∷◌, length, refl, ap, arith}
use Rattle.tks_event.specs.Event.{Event}
use Rattle.tks_queue.specs.declared.queued.Queued.{Queued}
use Rattle.std.proofs.lemmas.List.Edits.{insert_end}
use Rattle.tks_queue.specs.declared.place.Place.{Place}
use Rattle.tks_queue.specs.declared.place.Place.TheVariants as place
use Rattle.tks_queue.specs.EventQueue.{put, queued, some_with_mark, put_with_mark, BehindTheLast, First}
use Rattle.tks_queue.specs.Index.{up_to_mark, is_mark, index_for}

put_by_index : (e : Event) (queue : List Queued) → insert queue (up_to_mark queue) (queued true e) ≡ put_with_mark e queue
put_by_index e [] = refl
put_by_index e (q ∷ queue) = by (some_with_mark (q ∷ queue)) refl (put_by_index e queue)
  where
    by : (b : Bool) → some_with_mark (q ∷ queue) ≡ b → insert queue (up_to_mark queue) (queued true e) ≡ put_with_mark e queue
        → insert (q ∷ queue) (up_to_mark (q ∷ queue)) (queued true e) ≡ put_with_mark e (q ∷ queue)
    by true h rest = rw h (ap (λ r. q ∷ r) rest)
    by false h rest = rw h refl

-- put by index, an event stands in its place
pub put_at_index : (p : Place) (e : Event) (queue : List Queued) → insert queue (index_for p queue) (queued (is_mark p) e) ≡ put p e queue
put_at_index place.Tail e queue = insert_end queue (queued false e)
put_at_index place.Head e queue = refl
put_at_index place.Mark e queue = put_by_index e queue

up_within : (queue : List Queued) → up_to_mark queue ≤ length queue
up_within [] = omega arith
up_within (q ∷ queue) = by (some_with_mark (q ∷ queue)) refl (up_within queue)
  where
    by : (b : Bool) → some_with_mark (q ∷ queue) ≡ b → up_to_mark queue ≤ length queue → up_to_mark (q ∷ queue) ≤ suc (length queue)
    by true e h = rw e (omega (arith, h))
    by false e h = rw e (omega arith)

pub index_within : (p : Place) (queue : List Queued) → index_for p queue ≤ length queue
index_within place.Tail queue = omega arith
index_within place.Head queue = omega arith
index_within place.Mark queue = up_within queue

-- ---- counting up to the last one that was put with `mark`

none_up_to : (queue : List Queued) → some_with_mark queue ≡ false → up_to_mark queue ≡ 0
none_up_to [] h = refl
none_up_to (q ∷ queue) h = rw h refl

pub none_counted : (n : ℕ) (queue : List Queued) → up_to_mark queue ≡ (if some_with_mark queue then (n - n) + up_to_mark queue else 0)
none_counted n queue = by (some_with_mark queue) refl
  where
    by : (b : Bool) → some_with_mark queue ≡ b → up_to_mark queue ≡ (if b then (n - n) + up_to_mark queue else 0)
    by true e = omega arith
    by false e = none_up_to queue e

pub one_counted : (q : Queued) (queue : List Queued) (len behind count all : ℕ) → q.with_mark ≡ true → behind ≡ suc (length queue) → behind ≤ len
    → all ≡ (if some_with_mark (q ∷ queue) then (len - behind) + up_to_mark (q ∷ queue) else count)
    → all ≡ (if some_with_mark queue then (len - (behind - 1)) + up_to_mark queue else len - (behind - 1))
one_counted q queue len behind count all so long within h = by (some_with_mark queue) refl
  where
    whole : some_with_mark (q ∷ queue) ≡ true
    whole = rw so refl

    counted : all ≡ (len - behind) + suc (up_to_mark queue)
    counted = rw whole at h

    by : (b : Bool) → some_with_mark queue ≡ b → all ≡ (if b then (len - (behind - 1)) + up_to_mark queue else len - (behind - 1))
    by true e = omega (arith, counted)
    by false e = let none = none_up_to queue e in omega (arith, counted, none)

none_so : (queue : List Queued) → some_with_mark queue ≡ false → list_all (λ q. not q.with_mark) queue ≡ true
none_so [] h = refl
none_so (q ∷ queue) h = by q.with_mark refl h (none_so queue)
  where
    by : (b : Bool) → q.with_mark ≡ b → some_with_mark (q ∷ queue) ≡ false → (some_with_mark queue ≡ false → list_all (λ p. not p.with_mark) queue ≡ true)
        → list_all (λ p. not p.with_mark) (q ∷ queue) ≡ true
    by true e i rest = absurd (let j : true ≡ false = rw e at i in cc)
    by false e i rest = rw e (rest (rw e at i))

all_none : (queue : List Queued) → list_all (λ q. not q.with_mark) queue ≡ true → some_with_mark queue ≡ false
all_none [] h = refl
all_none (q ∷ queue) h = by q.with_mark refl h (all_none queue)
  where
    by : (b : Bool) → q.with_mark ≡ b → list_all (λ p. not p.with_mark) (q ∷ queue) ≡ true → (list_all (λ p. not p.with_mark) queue ≡ true → some_with_mark queue ≡ false)
        → some_with_mark (q ∷ queue) ≡ false
    by true e i rest = absurd (let j : false ≡ true = rw e at i in cc)
    by false e i rest = rw e (rest (rw e at i))

has_mark : (q : Queued) (queue : List Queued) → some_with_mark (q ∷ queue) ≡ true → some_with_mark queue ≡ false → q.with_mark ≡ true
has_mark q queue h k = by q.with_mark refl h
  where
    by : (b : Bool) → q.with_mark ≡ b → some_with_mark (q ∷ queue) ≡ true → q.with_mark ≡ true
    by true e i = e
    by false e i = absurd (let j : some_with_mark queue ≡ true = rw e at i in cc)

behind_more : (e : Event) (q : Queued) (queue : List Queued) → some_with_mark (q ∷ queue) ≡ true
    → BehindTheLast e queue (put_with_mark e queue) ⊎ First e queue (put_with_mark e queue)
    → BehindTheLast e (q ∷ queue) (put_with_mark e (q ∷ queue)) ⊎ First e (q ∷ queue) (put_with_mark e (q ∷ queue))
behind_more e q queue h (inl r) = inl (record {
  front = q ∷ r.front;
  last = r.last;
  back = r.back;
  last_so = r.last_so;
  none_behind = r.none_behind;
  was = ap (λ l. q ∷ l) r.was;
  is = rw h (ap (λ l. q ∷ l) r.is);
})
behind_more e q queue h (inr f) = inl (record {
  front = [];
  last = q;
  back = queue;
  last_so = has_mark q queue h (all_none queue f.none);
  none_behind = f.none;
  was = refl;
  is = rw h (ap (λ l. q ∷ l) f.is);
})

pub behind_the_last : (e : Event) (queue : List Queued) → BehindTheLast e queue (put_with_mark e queue) ⊎ First e queue (put_with_mark e queue)
behind_the_last e [] = inr (record { none = refl; is = refl })
behind_the_last e (q ∷ queue) = by (some_with_mark (q ∷ queue)) refl (behind_the_last e queue)
  where
    by : (b : Bool) → some_with_mark (q ∷ queue) ≡ b → BehindTheLast e queue (put_with_mark e queue) ⊎ First e queue (put_with_mark e queue)
        → BehindTheLast e (q ∷ queue) (put_with_mark e (q ∷ queue)) ⊎ First e (q ∷ queue) (put_with_mark e (q ∷ queue))
    by true h rest = behind_more e q queue h rest
    by false h rest = inr (record { none = none_so (q ∷ queue) h; is = rw h refl })

-- What an entry's options say stays within limits where it is told texts that are.
use Rattle.std.proofs.Common.{ℕ, ◌+◌, true, ◌&&◌, List, [], ◌∷◌, length, min, nat_lt, codes, IfOk}
use Rattle.tks_text.specs.Text.{same_text}
use Rattle.tks_text.specs.declared.limits.Limits.{Limits}
use Rattle.tks_opt.specs.Calls.{subcommand_does}
use Rattle.tks_opt.specs.declared.said.Said.{Said}
use Rattle.tks_entry.specs.Entry.{Entry, place_in, is_editable, put_in, inserted, taken_out, deleted}
use Rattle.tks_entry.specs.Commands.{get_does, insert_does, delete_does, icursor_does, index_does, shared_does, entry_does, called}
use Rattle.tks_keeping.proofs.Lists.{one_so, one_of}
use Rattle.tks_keeping.proofs.Texts.{TextsFit}
use Rattle.tks_keeping.proofs.Options.{OptionsFit, CalledFits as OptionsCalled, follows, follows_on, whole_so, subcommand_fits}

module _ (limits : Limits) where
  -- what the options say fits; the text may be longer
  abbrev pub LooselyFits : Entry → Type 0
  LooselyFits e = OptionsFit limits true e.options

  -- the same of what a command leaves
  abbrev pub CalledFits : Said × Entry → Type 0
  CalledFits x = LooselyFits x.1

  inserted_fits : (place : ℕ) (more : List ℕ) (e : Entry) → LooselyFits e → LooselyFits (inserted place more e)
  inserted_fits place [] e h = h
  inserted_fits place (c ∷ more) e h = one_so LooselyFits (is_editable e) (put_in place (c ∷ more) e) e h h

  deleted_fits : (first last : ℕ) (e : Entry) → LooselyFits e → LooselyFits (deleted first last e)
  deleted_fits first last e h =
      one_so LooselyFits (nat_lt first (min last (length e.text)) && is_editable e) (taken_out first (min last (length e.text)) e) e h h

  get_fits : (path : List ℕ) (words : List (List ℕ)) (e : Entry) → LooselyFits e → IfOk (get_does path words e) CalledFits
  get_fits path [] e h = h
  get_fits path (word ∷ words) e h = tt

  insert_fits : (path : List ℕ) (words : List (List ℕ)) (e : Entry) → LooselyFits e → IfOk (insert_does path words e) CalledFits
  insert_fits path [] e h = tt
  insert_fits path (index ∷ []) e h = tt
  insert_fits path (index ∷ (more ∷ [])) e h = follows CalledFits (place_in e index) _ (λ place. inserted_fits place more e h)
  insert_fits path (index ∷ (more ∷ (word ∷ words))) e h = tt

  delete_fits : (path : List ℕ) (words : List (List ℕ)) (e : Entry) → LooselyFits e → IfOk (delete_does path words e) CalledFits
  delete_fits path [] e h = tt
  delete_fits path (index ∷ []) e h = follows CalledFits (place_in e index) _ (λ first. deleted_fits first (first + 1) e h)
  delete_fits path (index ∷ (behind ∷ [])) e h =
      follows CalledFits (place_in e index) _ (λ first. follows CalledFits (place_in e behind) _ (λ last. deleted_fits first last e h))
  delete_fits path (index ∷ (behind ∷ (word ∷ words))) e h = tt

  icursor_fits : (path : List ℕ) (words : List (List ℕ)) (e : Entry) → LooselyFits e → IfOk (icursor_does path words e) CalledFits
  icursor_fits path [] e h = tt
  icursor_fits path (index ∷ []) e h = follows CalledFits (place_in e index) _ (λ place. h)
  icursor_fits path (index ∷ (word ∷ words)) e h = tt

  index_fits : (path : List ℕ) (words : List (List ℕ)) (e : Entry) → LooselyFits e → IfOk (index_does path words e) CalledFits
  index_fits path [] e h = tt
  index_fits path (index ∷ []) e h = follows CalledFits (place_in e index) _ (λ place. h)
  index_fits path (index ∷ (word ∷ words)) e h = tt

  shared_fits : (path name : List ℕ) (words : List (List ℕ)) (e : Entry) → TextsFit limits words → LooselyFits e → IfOk (shared_does path name words e) CalledFits
  shared_fits path name words e w h =
      follows_on (OptionsCalled limits true) CalledFits (subcommand_does path name words e.options) _ (subcommand_fits limits true path name words e.options w h) (λ x k. k)

  named_fits : (path name : List ℕ) (words : List (List ℕ)) (e : Entry) → TextsFit limits words → LooselyFits e → IfOk (entry_does path name words e) CalledFits
  named_fits path name words e w h =
      one_of CalledFits (same_text name (codes "get")) _ _ (get_fits path words e h)
      (one_of CalledFits (same_text name (codes "insert")) _ _ (insert_fits path words e h)
      (one_of CalledFits (same_text name (codes "delete")) _ _ (delete_fits path words e h)
      (one_of CalledFits (same_text name (codes "icursor")) _ _ (icursor_fits path words e h)
      (one_of CalledFits (same_text name (codes "index")) _ _ (index_fits path words e h)
      (shared_fits path name words e w h)))))

  -- a whole command, with words that fit
  pub called_fits : (e : Entry) (words : List (List ℕ)) → TextsFit limits words → LooselyFits e → IfOk (called e words) CalledFits
  called_fits e words w h = whole_so limits CalledFits words _ w (λ path name rest r. named_fits path name rest e r h)

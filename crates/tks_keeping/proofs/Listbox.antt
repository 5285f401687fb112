-- What a listbox's options and items say stays within limits where it is told texts that are.
use Rattle.std.proofs.Common.{ℕ, Bool, true, false, ◌&&◌, List, [], ◌∷◌, ◌++◌, map, take, drop, length, min, max, nat_lt, codes, ℤ, IfOk, ◌∙◌}
use Rattle.std.proofs.lemmas.List.Folds.{list_all-map}
use Rattle.tks_text.specs.Integer.{integer_of}
use Rattle.tks_text.specs.Text.{same_text}
use Rattle.tks_text.specs.declared.limits.Limits.{Limits}
use Rattle.tks_opt.specs.Calls.{subcommand_does}
use Rattle.tks_opt.specs.declared.said.Said.{Said}
use Rattle.tks_listbox.specs.Listbox.{Listbox, rounded, front_of, behind_of, among, is_editable, new_item, put_in, inserted, taken_out, deleted, turned, turned_in, selected}
use Rattle.tks_listbox.specs.Commands.{behind_index, item_index, row_read, insert_does, delete_does, get_does, size_does, index_does, activate_does, nearest_does, select_does, selected_between, includes_does, selection_does, curselection_does, shared_does, other_does, listbox_does, called}
use Rattle.tks_listbox.specs.declared.item.Item.{Item}
use Rattle.tks_limits.specs.Within.{fits}
use Rattle.tks_keeping.proofs.Lists.{one_so, one_of, appended_so, front_so, behind_so, changed_so, AllSo}
use Rattle.tks_keeping.proofs.Texts.{TextsFit}
use Rattle.tks_keeping.proofs.Options.{OptionsFit, CalledFits as OptionsCalled, follows, follows_on, whole_so, subcommand_fits}

module _ (limits : Limits) where
  -- whether an item's text fits
  abbrev pub item_fits : Item → Bool
  item_fits item = fits limits item.text

  -- what the options say and the items' texts fit; there may be more items
  pub record LooselyFits (l : Listbox) : Type 0 where
    pub options : OptionsFit limits true l.options
    pub items : AllSo item_fits l.items

  -- the same of what a command leaves
  abbrev pub CalledFits : Said × Listbox → Type 0
  CalledFits x = LooselyFits x.1

  -- ---- changes

  put_fits : (place : ℕ) (texts : List (List ℕ)) (l : Listbox) → TextsFit limits texts → LooselyFits l → LooselyFits (put_in place texts l)
  put_fits place texts l w h =
      record {
        options = h.options;
        items =
            appended_so item_fits (take place l.items) (map new_item texts ++ drop place l.items) (front_so item_fits place l.items h.items)
            (appended_so item_fits (map new_item texts) (drop place l.items) (list_all-map item_fits new_item texts ∙ w) (behind_so item_fits place l.items h.items));
      }

  inserted_fits : (place : ℕ) (texts : List (List ℕ)) (l : Listbox) → TextsFit limits texts → LooselyFits l → LooselyFits (inserted place texts l)
  inserted_fits place texts l w h = one_so LooselyFits (is_editable l) (put_in place texts l) l (put_fits place texts l w h) h

  taken_fits : (front behind : ℕ) (l : Listbox) → LooselyFits l → LooselyFits (taken_out front behind l)
  taken_fits front behind l h =
      record {
        options = h.options;
        items = appended_so item_fits (take front l.items) (drop behind l.items) (front_so item_fits front l.items h.items) (behind_so item_fits behind l.items h.items);
      }

  deleted_fits : (front behind : ℕ) (l : Listbox) → LooselyFits l → LooselyFits (deleted front behind l)
  deleted_fits front behind l h = one_so LooselyFits (nat_lt front behind && is_editable l) (taken_out front behind l) l (taken_fits front behind l h) h

  turned_fit : (on : Bool) (front behind : ℕ) (items : List Item) → AllSo item_fits items → AllSo item_fits (turned_in on front behind items)
  turned_fit on front behind items h =
      appended_so item_fits (take front items) (map (turned on) (among front behind items) ++ drop (max front behind) items) (front_so item_fits front items h)
      (appended_so item_fits (map (turned on) (among front behind items)) (drop (max front behind) items)
      (changed_so item_fits (turned on) (λ item k. k) (among front behind items) (front_so item_fits _ (drop front items) (behind_so item_fits front items h)))
      (behind_so item_fits (max front behind) items h))

  selected_fits : (on : Bool) (front behind : ℕ) (l : Listbox) → LooselyFits l → LooselyFits (selected on front behind l)
  selected_fits on front behind l h =
      one_so LooselyFits (is_editable l) (record l { items = turned_in on front behind l.items }) l
      (record { options = h.options; items = turned_fit on front behind l.items h.items }) h

  -- ---- commands

  insert_fits : (path : List ℕ) (words : List (List ℕ)) (l : Listbox) → TextsFit limits words → LooselyFits l → IfOk (insert_does path words l) CalledFits
  insert_fits path [] l w h = tt
  insert_fits path (index ∷ []) l w h = tt
  insert_fits path (index ∷ (text ∷ texts)) l w h =
      follows CalledFits (behind_index l index) _ (λ z. inserted_fits (rounded z (length l.items)) (text ∷ texts) l (behind_so (fits limits) 1 (index ∷ text ∷ texts) w) h)

  delete_fits : (path : List ℕ) (words : List (List ℕ)) (l : Listbox) → LooselyFits l → IfOk (delete_does path words l) CalledFits
  delete_fits path [] l h = tt
  delete_fits path (index ∷ []) l h = follows CalledFits (item_index l index) _ (λ z. deleted_fits (front_of z) (behind_of z (length l.items)) l h)
  delete_fits path (index ∷ (last ∷ [])) l h =
      follows CalledFits (item_index l index) _ (λ z. follows CalledFits (item_index l last) _ (λ y. deleted_fits (front_of z) (behind_of y (length l.items)) l h))
  delete_fits path (index ∷ (last ∷ (word ∷ words))) l h = tt

  get_fits : (path : List ℕ) (words : List (List ℕ)) (l : Listbox) → LooselyFits l → IfOk (get_does path words l) CalledFits
  get_fits path [] l h = tt
  get_fits path (index ∷ []) l h = follows CalledFits (item_index l index) _ (λ z. h)
  get_fits path (index ∷ (last ∷ [])) l h = follows CalledFits (item_index l index) _ (λ z. follows CalledFits (item_index l last) _ (λ y. h))
  get_fits path (index ∷ (last ∷ (word ∷ words))) l h = tt

  size_fits : (path : List ℕ) (words : List (List ℕ)) (l : Listbox) → LooselyFits l → IfOk (size_does path words l) CalledFits
  size_fits path [] l h = h
  size_fits path (word ∷ words) l h = tt

  index_fits : (path : List ℕ) (words : List (List ℕ)) (l : Listbox) → LooselyFits l → IfOk (index_does path words l) CalledFits
  index_fits path [] l h = tt
  index_fits path (index ∷ []) l h = follows CalledFits (behind_index l index) _ (λ z. h)
  index_fits path (index ∷ (word ∷ words)) l h = tt

  activate_fits : (path : List ℕ) (words : List (List ℕ)) (l : Listbox) → LooselyFits l → IfOk (activate_does path words l) CalledFits
  activate_fits path [] l h = tt
  activate_fits path (index ∷ []) l h = follows CalledFits (item_index l index) _ (λ z. record { options = h.options; items = h.items })
  activate_fits path (index ∷ (word ∷ words)) l h = tt

  nearest_fits : (path : List ℕ) (words : List (List ℕ)) (l : Listbox) → LooselyFits l → IfOk (nearest_does path words l) CalledFits
  nearest_fits path [] l h = tt
  nearest_fits path (y ∷ []) l h = follows CalledFits (row_read y (integer_of y)) _ (λ z. h)
  nearest_fits path (y ∷ (word ∷ words)) l h = tt

  between_fits : (on : Bool) (a b : ℤ) (l : Listbox) → LooselyFits l → LooselyFits (selected_between on a b l)
  between_fits on a b l h = selected_fits on (min (front_of a) (front_of b)) (max (behind_of a (length l.items)) (behind_of b (length l.items))) l h

  select_fits : (on : Bool) (path : List ℕ) (words : List (List ℕ)) (l : Listbox) → LooselyFits l → IfOk (select_does on path words l) CalledFits
  select_fits on path [] l h = tt
  select_fits on path (index ∷ []) l h = follows CalledFits (item_index l index) _ (λ z. between_fits on z z l h)
  select_fits on path (index ∷ (last ∷ [])) l h =
      follows CalledFits (item_index l index) _ (λ z. follows CalledFits (item_index l last) _ (λ y. between_fits on z y l h))
  select_fits on path (index ∷ (last ∷ (word ∷ words))) l h = tt

  includes_fits : (path : List ℕ) (words : List (List ℕ)) (l : Listbox) → LooselyFits l → IfOk (includes_does path words l) CalledFits
  includes_fits path [] l h = tt
  includes_fits path (index ∷ []) l h = follows CalledFits (item_index l index) _ (λ z. h)
  includes_fits path (index ∷ (word ∷ words)) l h = tt

  selection_fits : (path : List ℕ) (words : List (List ℕ)) (l : Listbox) → LooselyFits l → IfOk (selection_does path words l) CalledFits
  selection_fits path [] l h = tt
  selection_fits path (name ∷ words) l h =
      one_of CalledFits (same_text name (codes "set")) _ _ (select_fits true path words l h)
      (one_of CalledFits (same_text name (codes "clear")) _ _ (select_fits false path words l h)
      (one_of CalledFits (same_text name (codes "includes")) _ _ (includes_fits path words l h) tt))

  curselection_fits : (path : List ℕ) (words : List (List ℕ)) (l : Listbox) → LooselyFits l → IfOk (curselection_does path words l) CalledFits
  curselection_fits path [] l h = h
  curselection_fits path (word ∷ words) l h = tt

  shared_fits : (path name : List ℕ) (words : List (List ℕ)) (l : Listbox) → TextsFit limits words → LooselyFits l → IfOk (shared_does path name words l) CalledFits
  shared_fits path name words l w h =
      follows_on (OptionsCalled limits true) CalledFits (subcommand_does path name words l.options) _ (subcommand_fits limits true path name words l.options w h.options)
      (λ x k. record { options = k; items = h.items })

  other_fits : (path name : List ℕ) (words : List (List ℕ)) (l : Listbox) → TextsFit limits words → LooselyFits l → IfOk (other_does path name words l) CalledFits
  other_fits path name words l w h =
      one_of CalledFits (same_text name (codes "nearest")) _ _ (nearest_fits path words l h)
      (one_of CalledFits (same_text name (codes "selection")) _ _ (selection_fits path words l h)
      (one_of CalledFits (same_text name (codes "curselection")) _ _ (curselection_fits path words l h)
      (shared_fits path name words l w h)))

  named_fits : (path name : List ℕ) (words : List (List ℕ)) (l : Listbox) → TextsFit limits words → LooselyFits l → IfOk (listbox_does path name words l) CalledFits
  named_fits path name words l w h =
      one_of CalledFits (same_text name (codes "insert")) _ _ (insert_fits path words l w h)
      (one_of CalledFits (same_text name (codes "delete")) _ _ (delete_fits path words l h)
      (one_of CalledFits (same_text name (codes "get")) _ _ (get_fits path words l h)
      (one_of CalledFits (same_text name (codes "size")) _ _ (size_fits path words l h)
      (one_of CalledFits (same_text name (codes "index")) _ _ (index_fits path words l h)
      (one_of CalledFits (same_text name (codes "activate")) _ _ (activate_fits path words l h)
      (other_fits path name words l w h))))))

  -- a whole command, with words that fit
  pub called_fits : (l : Listbox) (words : List (List ℕ)) → TextsFit limits words → LooselyFits l → IfOk (called l words) CalledFits
  called_fits l words w h = whole_so limits CalledFits words _ w (λ path name rest r. named_fits path name rest l r h)

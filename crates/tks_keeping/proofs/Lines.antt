-- What a text widget's options say, and what its tags and marks are named, stays within limits where it is told texts that are.
use Rattle.std.proofs.Common.{◌≡◌, ℕ, ◌+◌, Bool, true, false, ◌||◌, not, List, [], ◌∷◌, ◌++◌, map, length, codes, Option, Some, None, IfOk}
use Rattle.std.specs.Prelude.{nat_le}
use Rattle.std.specs.List.{list_any}
use Rattle.std.proofs.lemmas.Bool.{and_parts}
use Rattle.tks_text.specs.Text.{same_text}
use Rattle.tks_text.specs.declared.limits.Limits.{Limits}
use Rattle.tks_list.specs.Reading.{list_of}
use Rattle.tks_tcl.specs.Words.{list_read}
use Rattle.tks_opt.specs.Calls.{subcommand_does}
use Rattle.tks_opt.specs.declared.said.Said.{Said}
use Rattle.tks_lines.specs.Indices.{place_in}
use Rattle.tks_lines.specs.Lines.{Lines, cursor_name, is_listed, is_tag, is_among, is_mark, is_around, mark_named, with_tag, with_tags, new_tag, tagged, grown, shrunk, goes_on, moved_on, moved_back, put_at, with_mark, turned, turned_marks, painted, is_editable, at_most_last, put_in, inserted, inserted_with, deleted}
use Rattle.tks_lines.specs.Commands.{or_no_list, get_does, index_does, insert_does, delete_does, mark_set_does, mark_unset_does, mark_names_does, or_no_mark, is_left, gravity_becomes, mark_gravity_does, mark_does, tag_put_does, tag_put, tag_names_does, tag_ranges_does, tag_delete_does, tag_does, shared_does, lines_does, called}
use Rattle.tks_lines.specs.declared.parts.Mark.{Mark}
use Rattle.tks_lines.specs.declared.parts.Tag.{Tag}
use Rattle.tks_limits.specs.Within.{fits, texts_fit}
use Rattle.tks_keeping.proofs.Lists.{one_so, one_of, pushed_so, filtered_so, changed_so, AllSo}
use Rattle.tks_keeping.proofs.Texts.{TextsFit, list_fits, TextFits, first_word, other_words}
use Rattle.tks_keeping.proofs.Options.{OptionsFit, CalledFits as OptionsCalled, follows, follows_on, whole_so, subcommand_fits}

module _ (limits : Limits) where
  -- whether the name of a tag fits, and that of a mark
  abbrev pub tag_fits : Tag → Bool
  tag_fits g = fits limits g.name

  abbrev pub mark_fits : Mark → Bool
  mark_fits m = fits limits m.name

  -- what the options say and the names of tags and marks fit; the text may be longer, and there may be more tags and marks
  pub record LooselyFits (t : Lines) : Type 0 where
    pub options : OptionsFit limits true t.options
    pub tags : AllSo tag_fits t.tags
    pub marks : AllSo mark_fits t.marks

  -- the same of what a command leaves
  abbrev pub CalledFits : Said × Lines → Type 0
  CalledFits x = LooselyFits x.1

  -- ---- tags

  with_tag_fits : (name : List ℕ) (len : ℕ) (tags : List Tag) → TextFits limits name → AllSo tag_fits tags → AllSo tag_fits (with_tag name len tags)
  with_tag_fits name len tags n h =
      one_so (λ gs. AllSo tag_fits gs) (list_any (is_tag name) tags) tags (tags ++ new_tag name len ∷ []) h
      (pushed_so tag_fits tags (new_tag name len) h n)

  with_tags_fit : (names : List (List ℕ)) (len : ℕ) (tags : List Tag) → TextsFit limits names → AllSo tag_fits tags → AllSo tag_fits (with_tags names len tags)
  with_tags_fit [] len tags n h = h
  with_tags_fit (name ∷ names) len tags n h =
      let both = and_parts (fits limits name) (texts_fit limits names) n in
      with_tags_fit names len (with_tag name len tags) both.1 (with_tag_fits name len tags both.0 h)

  tagged_fit : (value : Bool) (name : List ℕ) (first last : ℕ) (tags : List Tag) → AllSo tag_fits tags → AllSo tag_fits (map (tagged value name first last) tags)
  tagged_fit value name first last tags h =
      changed_so tag_fits (tagged value name first last)
      (λ g k. one_so (λ x. tag_fits x ≡ true) (is_tag name g) (record g { on = painted value first last g.on }) g k k) tags h

  -- ---- marks

  moved_on_fit : (place count : ℕ) (marks : List Mark) → AllSo mark_fits marks → AllSo mark_fits (map (moved_on place count) marks)
  moved_on_fit place count marks h =
      changed_so mark_fits (moved_on place count) (λ m k. one_so (λ x. mark_fits x ≡ true) (goes_on place m) (record m { place = m.place + count }) m k k) marks h

  moved_back_fit : (first last : ℕ) (marks : List Mark) → AllSo mark_fits marks → AllSo mark_fits (map (moved_back first last) marks)
  moved_back_fit first last marks h =
      changed_so mark_fits (moved_back first last) (λ m k. one_so (λ x. mark_fits x ≡ true) (nat_le m.place first) m _ k k) marks h

  with_mark_fits : (name : List ℕ) (place : ℕ) (marks : List Mark) → TextFits limits name → AllSo mark_fits marks → AllSo mark_fits (with_mark name place marks)
  with_mark_fits name place marks n h =
      one_so (λ ms. AllSo mark_fits ms) (list_any (is_mark name) marks) (map (put_at name place) marks) (marks ++ (record { name = name; place = place; left = false }) ∷ [])
      (changed_so mark_fits (put_at name place) (λ m k. one_so (λ x. mark_fits x ≡ true) (is_mark name m) (record m { place = place }) m k k) marks h)
      (pushed_so mark_fits marks (record { name = name; place = place; left = false }) h n)

  turned_fit : (name : List ℕ) (left : Bool) (marks : List Mark) → AllSo mark_fits marks → AllSo mark_fits (turned_marks name left marks)
  turned_fit name left marks h =
      changed_so mark_fits (turned name left) (λ m k. one_so (λ x. mark_fits x ≡ true) (is_mark name m) (record m { left = left }) m k k) marks h

  -- ---- changes of the text

  put_fits : (place : ℕ) (more : List ℕ) (test : Tag → Bool) (t : Lines) → LooselyFits t → LooselyFits (put_in place more test t)
  put_fits place more test t h =
      record {
        options = h.options;
        tags = changed_so tag_fits (λ g. grown place (length more) (test g) g) (λ g k. k) t.tags h.tags;
        marks = moved_on_fit place (length more) t.marks h.marks;
      }

  inserted_fits : (place : ℕ) (more : List ℕ) (t : Lines) → LooselyFits t → LooselyFits (inserted place more t)
  inserted_fits place more t h =
      one_so LooselyFits (is_editable t) (put_in (at_most_last t place) more (is_around (at_most_last t place)) t) t
      (put_fits (at_most_last t place) more (is_around (at_most_last t place)) t h) h

  inserted_with_fits : (place : ℕ) (more : List ℕ) (names : List (List ℕ)) (t : Lines) → TextsFit limits names → LooselyFits t → LooselyFits (inserted_with place more names t)
  inserted_with_fits place more names t n h =
      one_so LooselyFits (is_editable t) (put_in (at_most_last t place) more (is_among names) (record t { tags = with_tags names (length t.text) t.tags })) t
      (put_fits (at_most_last t place) more (is_among names) (record t { tags = with_tags names (length t.text) t.tags })
      (record { options = h.options; tags = with_tags_fit names (length t.text) t.tags n h.tags; marks = h.marks })) h

  deleted_fits : (first last : ℕ) (t : Lines) → LooselyFits t → LooselyFits (deleted first last t)
  deleted_fits first last t h =
      one_so LooselyFits (is_editable t) _ t
      (record {
        options = h.options;
        tags = changed_so tag_fits (shrunk first last) (λ g k. k) t.tags h.tags;
        marks = moved_back_fit first last t.marks h.marks;
      }) h

  -- ---- the text's commands

  get_fits : (path : List ℕ) (words : List (List ℕ)) (t : Lines) → LooselyFits t → IfOk (get_does path words t) CalledFits
  get_fits path [] t h = tt
  get_fits path (index ∷ []) t h = follows CalledFits (place_in t index) _ (λ first. h)
  get_fits path (index ∷ (behind ∷ [])) t h = follows CalledFits (place_in t index) _ (λ first. follows CalledFits (place_in t behind) _ (λ last. h))
  get_fits path (index ∷ (behind ∷ (word ∷ words))) t h = tt

  index_fits : (path : List ℕ) (words : List (List ℕ)) (t : Lines) → LooselyFits t → IfOk (index_does path words t) CalledFits
  index_fits path [] t h = tt
  index_fits path (index ∷ []) t h = follows CalledFits (place_in t index) _ (λ place. h)
  index_fits path (index ∷ (word ∷ words)) t h = tt

  names_fit : (tags : List ℕ) → TextFits limits tags → IfOk (or_no_list (list_of tags)) (TextsFit limits)
  names_fit tags f = by (list_of tags) (list_fits limits tags f)
    where
      by : (o : Option (List (List ℕ))) → IfOk (list_read o) (TextsFit limits) → IfOk (or_no_list o) (TextsFit limits)
      by None h = tt
      by (Some l) h = h

  insert_fits : (path : List ℕ) (words : List (List ℕ)) (t : Lines) → TextsFit limits words → LooselyFits t → IfOk (insert_does path words t) CalledFits
  insert_fits path [] t w h = tt
  insert_fits path (index ∷ []) t w h = tt
  insert_fits path (index ∷ (more ∷ [])) t w h = follows CalledFits (place_in t index) _ (λ place. inserted_fits place more t h)
  insert_fits path (index ∷ (more ∷ (tags ∷ []))) t w h =
      let third = first_word limits tags [] (other_words limits more (tags ∷ []) (other_words limits index (more ∷ tags ∷ []) w)) in
      follows CalledFits (place_in t index) _ (λ place.
      follows_on (TextsFit limits) CalledFits (or_no_list (list_of tags)) _ (names_fit tags third) (λ names n. inserted_with_fits place more names t n h))
  insert_fits path (index ∷ (more ∷ (tags ∷ (word ∷ words)))) t w h = tt

  delete_fits : (path : List ℕ) (words : List (List ℕ)) (t : Lines) → LooselyFits t → IfOk (delete_does path words t) CalledFits
  delete_fits path [] t h = tt
  delete_fits path (index ∷ []) t h = follows CalledFits (place_in t index) _ (λ first. deleted_fits first (first + 1) t h)
  delete_fits path (index ∷ (behind ∷ [])) t h =
      follows CalledFits (place_in t index) _ (λ first. follows CalledFits (place_in t behind) _ (λ last. deleted_fits first last t h))
  delete_fits path (index ∷ (behind ∷ (word ∷ words))) t h = tt

  -- ---- the marks' commands

  mark_set_fits : (path : List ℕ) (words : List (List ℕ)) (t : Lines) → TextsFit limits words → LooselyFits t → IfOk (mark_set_does path words t) CalledFits
  mark_set_fits path [] t w h = tt
  mark_set_fits path (name ∷ []) t w h = tt
  mark_set_fits path (name ∷ (index ∷ [])) t w h =
      follows CalledFits (place_in t index) _ (λ place. record {
        options = h.options;
        tags = h.tags;
        marks = with_mark_fits name (at_most_last t place) t.marks (first_word limits name (index ∷ []) w) h.marks;
      })
  mark_set_fits path (name ∷ (index ∷ (word ∷ words))) t w h = tt

  mark_unset_fits : (path : List ℕ) (words : List (List ℕ)) (t : Lines) → LooselyFits t → IfOk (mark_unset_does path words t) CalledFits
  mark_unset_fits path [] t h = tt
  mark_unset_fits path (name ∷ names) t h =
      record {
        options = h.options;
        tags = h.tags;
        marks = filtered_so mark_fits (λ m. is_mark cursor_name m || not (is_listed m.name (name ∷ names))) t.marks h.marks;
      }

  mark_names_fits : (path : List ℕ) (words : List (List ℕ)) (t : Lines) → LooselyFits t → IfOk (mark_names_does path words t) CalledFits
  mark_names_fits path [] t h = h
  mark_names_fits path (word ∷ words) t h = tt

  gravity_fits : (path name : List ℕ) (o : Option Bool) (t : Lines) → LooselyFits t → IfOk (gravity_becomes path name o t) CalledFits
  gravity_fits path name None t h = tt
  gravity_fits path name (Some left) t h =
      follows CalledFits (or_no_mark name (mark_named name t.marks)) _ (λ m. record { options = h.options; tags = h.tags; marks = turned_fit name left t.marks h.marks })

  mark_gravity_fits : (path : List ℕ) (words : List (List ℕ)) (t : Lines) → LooselyFits t → IfOk (mark_gravity_does path words t) CalledFits
  mark_gravity_fits path [] t h = tt
  mark_gravity_fits path (name ∷ []) t h = follows CalledFits (or_no_mark name (mark_named name t.marks)) _ (λ m. h)
  mark_gravity_fits path (name ∷ (word ∷ [])) t h = gravity_fits path name (is_left word) t h
  mark_gravity_fits path (name ∷ (word ∷ (more ∷ words))) t h = tt

  marks_fit : (path : List ℕ) (words : List (List ℕ)) (t : Lines) → TextsFit limits words → LooselyFits t → IfOk (mark_does path words t) CalledFits
  marks_fit path [] t w h = tt
  marks_fit path (name ∷ words) t w h =
      one_of CalledFits (same_text name (codes "set")) _ _ (mark_set_fits path words t (other_words limits name words w) h)
      (one_of CalledFits (same_text name (codes "unset")) _ _ (mark_unset_fits path words t h)
      (one_of CalledFits (same_text name (codes "names")) _ _ (mark_names_fits path words t h)
      (one_of CalledFits (same_text name (codes "gravity")) _ _ (mark_gravity_fits path words t h) tt)))

  -- ---- the tags' commands

  put_on_fits : (on : Bool) (name : List ℕ) (first last : ℕ) (t : Lines) → TextFits limits name → LooselyFits t → IfOk (tag_put on name first last t) CalledFits
  put_on_fits true name first last t n h =
      record {
        options = h.options;
        tags = tagged_fit true name first last (with_tag name (length t.text) t.tags) (with_tag_fits name (length t.text) t.tags n h.tags);
        marks = h.marks;
      }
  put_on_fits false name first last t n h = record { options = h.options; tags = tagged_fit false name first last t.tags h.tags; marks = h.marks }

  tag_put_fits : (on : Bool) (path : List ℕ) (words : List (List ℕ)) (t : Lines) → TextsFit limits words → LooselyFits t → IfOk (tag_put_does on path words t) CalledFits
  tag_put_fits on path [] t w h = tt
  tag_put_fits on path (name ∷ []) t w h = tt
  tag_put_fits on path (name ∷ (index ∷ [])) t w h =
      follows CalledFits (place_in t index) _ (λ first. put_on_fits on name first (first + 1) t (first_word limits name (index ∷ []) w) h)
  tag_put_fits on path (name ∷ (index ∷ (behind ∷ []))) t w h =
      follows CalledFits (place_in t index) _ (λ first.
      follows CalledFits (place_in t behind) _ (λ last. put_on_fits on name first last t (first_word limits name (index ∷ behind ∷ []) w) h))
  tag_put_fits on path (name ∷ (index ∷ (behind ∷ (word ∷ words)))) t w h = tt

  tag_names_fits : (path : List ℕ) (words : List (List ℕ)) (t : Lines) → LooselyFits t → IfOk (tag_names_does path words t) CalledFits
  tag_names_fits path [] t h = h
  tag_names_fits path (index ∷ []) t h = follows CalledFits (place_in t index) _ (λ place. h)
  tag_names_fits path (index ∷ (word ∷ words)) t h = tt

  tag_ranges_fits : (path : List ℕ) (words : List (List ℕ)) (t : Lines) → LooselyFits t → IfOk (tag_ranges_does path words t) CalledFits
  tag_ranges_fits path [] t h = tt
  tag_ranges_fits path (name ∷ []) t h = h
  tag_ranges_fits path (name ∷ (word ∷ words)) t h = tt

  tag_delete_fits : (path : List ℕ) (words : List (List ℕ)) (t : Lines) → LooselyFits t → IfOk (tag_delete_does path words t) CalledFits
  tag_delete_fits path [] t h = tt
  tag_delete_fits path (name ∷ names) t h =
      record { options = h.options; tags = filtered_so tag_fits (λ g. not (is_among (name ∷ names) g)) t.tags h.tags; marks = h.marks }

  tags_fit : (path : List ℕ) (words : List (List ℕ)) (t : Lines) → TextsFit limits words → LooselyFits t → IfOk (tag_does path words t) CalledFits
  tags_fit path [] t w h = tt
  tags_fit path (name ∷ words) t w h =
      let rest = other_words limits name words w in
      one_of CalledFits (same_text name (codes "add")) _ _ (tag_put_fits true path words t rest h)
      (one_of CalledFits (same_text name (codes "remove")) _ _ (tag_put_fits false path words t rest h)
      (one_of CalledFits (same_text name (codes "names")) _ _ (tag_names_fits path words t h)
      (one_of CalledFits (same_text name (codes "ranges")) _ _ (tag_ranges_fits path words t h)
      (one_of CalledFits (same_text name (codes "delete")) _ _ (tag_delete_fits path words t h) tt))))

  -- ---- all

  shared_fits : (path name : List ℕ) (words : List (List ℕ)) (t : Lines) → TextsFit limits words → LooselyFits t → IfOk (shared_does path name words t) CalledFits
  shared_fits path name words t w h =
      follows_on (OptionsCalled limits true) CalledFits (subcommand_does path name words t.options) _ (subcommand_fits limits true path name words t.options w h.options)
      (λ x k. record { options = k; tags = h.tags; marks = h.marks })

  named_fits : (path name : List ℕ) (words : List (List ℕ)) (t : Lines) → TextsFit limits words → LooselyFits t → IfOk (lines_does path name words t) CalledFits
  named_fits path name words t w h =
      one_of CalledFits (same_text name (codes "get")) _ _ (get_fits path words t h)
      (one_of CalledFits (same_text name (codes "insert")) _ _ (insert_fits path words t w h)
      (one_of CalledFits (same_text name (codes "delete")) _ _ (delete_fits path words t h)
      (one_of CalledFits (same_text name (codes "index")) _ _ (index_fits path words t h)
      (one_of CalledFits (same_text name (codes "mark")) _ _ (marks_fit path words t w h)
      (one_of CalledFits (same_text name (codes "tag")) _ _ (tags_fit path words t w h)
      (shared_fits path name words t w h))))))

  -- a whole command, with words that fit
  pub called_fits : (t : Lines) (words : List (List ℕ)) → TextsFit limits words → LooselyFits t → IfOk (called t words) CalledFits
  called_fits t words w h = whole_so limits CalledFits words _ w (λ path name rest r. named_fits path name rest t r h)

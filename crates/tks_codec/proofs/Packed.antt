-- As many windows are packed as the contents of all have members.
use Rattle.std.proofs.Common.{◌≡◌, ℕ, suc, ◌+◌, ◌*◌, ◌≤◌, ◌<◌, ◌==◌, Bool, true, false, true≢false, List, [], ◌∷◌, ◌++◌, length, Option, Some, None, refl, sym, ap, subst, ◌∙◌, cond, if◌then◌else◌, arith}
use Rattle.std.specs.Prelude.{map, is_some}
use Rattle.std.specs.List.{AllByRecursion, IsDistinct}
use Rattle.std.proofs.lemmas.Bool.{eqb-true, eq-eqb}
use Rattle.std.proofs.lemmas.List.{length-append}
use Rattle.tks_tree.specs.Windows as tree
use Rattle.tks_tree.specs.WellFormed.{Rise, Rises}
use Rattle.tks_pack.specs.declared.packing.Content.{Content}
use Rattle.tks_pack.specs.Packing.{Packed}
use Rattle.tks_pack.specs.declared.settings.Settings.{Settings}
use Rattle.tks_spelling.specs.Spelling.{number, text, flag, members}
use Rattle.std.specs.Int.{w64}
use Rattle.tks_codec_windows.specs.Bindtags.{tags}
use Rattle.tks_codec_windows.specs.Contents.{contents}
use Rattle.tks_codec_windows.specs.Options.{options}
use Rattle.tks_codec_windows.specs.Packing.{packing}
use Rattle.tks_codec_windows.specs.Places.{settings_in, or_else, packed_as}
use Rattle.tks_codec_windows.proofs.Sizes.{settings_size}
use Rattle.tks_state.specs.Widget.{options_of}
use Rattle.tks_state.specs.WellFormed.{AllPackChildren}
use Rattle.tks_state.specs.declared.kept.Kept.{Kept}
use Rattle.tks_codec.specs.Class.{class}
use Rattle.tks_codec.specs.Content.{content}
use Rattle.tks_codec.specs.Line.{line, line_with}
use Rattle.tks_codec.specs.Windows.{packings_of, line_of, lines_from, packed_count}
use Rattle.tks_codec.specs.declared.line.Line.{Line}
use Rattle.tks_codec.proofs.OfWindows.{ne, some_same, there}

-- ---- counting windows that pass a test

abbrev one : Bool → ℕ
one true = 1
one false = 0

abbrev count : (ℕ → Bool) → List tree.Window → ℕ
count f [] = 0
count f (w ∷ ws) = one (f w.number) + count f ws

-- one of two tests, of which none passes both
count_either : (f g h : ℕ → Bool) (ws : List tree.Window) → ((n : ℕ) → one (h n) ≡ one (f n) + one (g n)) → count h ws ≡ count f ws + count g ws
count_either f g h [] e = omega arith
count_either f g h (w ∷ ws) e = omega (arith, e w.number, count_either f g h ws e)

count_none : (f : ℕ → Bool) (ws : List tree.Window) → ((n : ℕ) → f n ≡ false) → count f ws ≡ 0
count_none f [] e = refl
count_none f (w ∷ ws) e = omega (arith, ap one (e w.number), count_none f ws e)

less_differs : (c m : ℕ) → c < m → (c == m) ≡ false
less_differs c m lt = by (c == m) refl
  where
    by : (b : Bool) → (c == m) ≡ b → b ≡ false
    by true e = absurd (omega (arith, lt, eqb-true c m e))
    by false e = refl

-- a number before those of all
count_before : (c low high : ℕ) (ws : List tree.Window) → c < low → Rise low ws high → count (λ n. c == n) ws ≡ 0
count_before c low high [] lt r = refl
count_before c low high (w ∷ ws) lt r =
    omega (arith, ap one (less_differs c w.number (omega (arith, lt, r.0))), count_before c (w.number + 1) high ws (omega (arith, lt, r.0)) r.1)

-- a number that one has
count_this : (c low high : ℕ) (ws : List tree.Window) → Rise low ws high → is_some (tree.of_number ws c) ≡ true → count (λ n. c == n) ws ≡ 1
count_this c low high [] r h = absurd (true≢false (sym h))
count_this c low high (w ∷ ws) r h = by (w.number == c) refl h (count_this c (w.number + 1) high ws r.1)
  where
    by : (b : Bool) → (w.number == c) ≡ b → is_some (cond b (Some w) (tree.of_number ws c)) ≡ true → (is_some (tree.of_number ws c) ≡ true → count (λ n. c == n) ws ≡ 1)
        → one (c == w.number) + count (λ n. c == n) ws ≡ 1
    by true e h rest =
        let same = eqb-true w.number c e in
        omega (arith, ap one (eq-eqb c w.number (sym same)), count_before c (w.number + 1) high ws (omega (arith, same)) r.1)
    by false e h rest = omega (arith, ap one (ne w.number c e), rest h)

-- ---- those in one window's contents

abbrev has : List Content → ℕ → Bool
has cs n = is_some (settings_in cs n)

not_in : (c n : ℕ) (cs : List Content) → c ≡ n → AllByRecursion (λ m. (c == m) ≡ false) (map (λ d. d.window) cs) → settings_in cs n ≡ None
not_in c n [] e h = refl
not_in c n (d ∷ cs) e h =
    ap (λ (b : Bool). if b then Some d.settings else settings_in cs n) (subst (λ x. (d.window == x) ≡ false) e (ne c d.window h.0)) ∙ not_in c n cs e h.1

has_more : (c : Content) (cs : List Content) (n : ℕ) → AllByRecursion (λ m. (c.window == m) ≡ false) (map (λ d. d.window) cs) → one (has (c ∷ cs) n) ≡ one (c.window == n) + one (has cs n)
has_more c cs n apart = by (c.window == n) refl
  where
    by : (b : Bool) → (c.window == n) ≡ b → one (is_some (if b then Some c.settings else settings_in cs n)) ≡ one b + one (has cs n)
    by true e = omega (arith, ap (λ (o : Option Settings). one (is_some o)) (not_in c.window n cs (eqb-true c.window n e) apart))
    by false e = omega arith

contents_count : (low high : ℕ) (ws : List tree.Window) (cs : List Content) → Rise low ws high → IsDistinct ◌==◌ (map (λ c. c.window) cs) → AllByRecursion (λ n. is_some (tree.of_number ws n) ≡ true) (map (λ c. c.window) cs)
    → count (has cs) ws ≡ length cs
unfolding IsDistinct
contents_count low high ws [] r d all = count_none (has []) ws (λ n. refl)
contents_count low high ws (c ∷ cs) r d all =
    omega (arith, count_either (λ n. c.window == n) (has cs) (has (c ∷ cs)) ws (λ n. has_more c cs n d.0), count_this c.window low high ws r all.0, contents_count low high ws cs r d.1 all.1)

-- ---- those in the contents of all

abbrev packed : List Kept → ℕ → Bool
packed ks n = is_some (packed_as (packings_of ks) n)

module _ (t : tree.Windows) where
  parent_is : (m : ℕ) (cs : List Content) (n : ℕ) → AllByRecursion (λ n. tree.parent t n ≡ Some m) (map (λ c. c.window) cs) → has cs n ≡ true → tree.parent t n ≡ Some m
  parent_is m [] n h e = absurd (true≢false (sym e))
  parent_is m (c ∷ cs) n h e = by (c.window == n) refl e (parent_is m cs n h.1)
    where
      by : (b : Bool) → (c.window == n) ≡ b → is_some (if b then Some c.settings else settings_in cs n) ≡ true → (has cs n ≡ true → tree.parent t n ≡ Some m) → tree.parent t n ≡ Some m
      by true s e rest = subst (λ x. tree.parent t x ≡ Some m) (eqb-true c.window n s) h.0
      by false s e rest = rest e

  packed_parent : (low : ℕ) (ks : List Kept) (n : ℕ) → Rises (λ k. k.window) low ks → AllPackChildren t ks → packed ks n ≡ true → (m : ℕ) × (low ≤ m) × (tree.parent t n ≡ Some m)
  packed_parent low [] n r a e = absurd (true≢false (sym e))
  packed_parent low (k ∷ ks) n r a e = by (settings_in k.packing.contents n) refl e (packed_parent (k.window + 1) ks n r.1 a.1)
    where
      by : (o : Option Settings) → settings_in k.packing.contents n ≡ o → is_some (or_else o (packed_as (packings_of ks) n)) ≡ true
          → (packed ks n ≡ true → (m : ℕ) × (k.window + 1 ≤ m) × (tree.parent t n ≡ Some m)) → (m : ℕ) × (low ≤ m) × (tree.parent t n ≡ Some m)
      by (Some s) is e rest = (k.window, r.0, parent_is k.window k.packing.contents n a.0.children (ap (λ (o : Option Settings). is_some o) is))
      by None is e rest = let p = rest e in (p.0, omega (arith, r.0, p.1), p.2)

  packed_more : (low : ℕ) (k : Kept) (ks : List Kept) (n : ℕ) → Rises (λ k. k.window) low (k ∷ ks) → AllPackChildren t (k ∷ ks) → one (packed (k ∷ ks) n) ≡ one (has k.packing.contents n) + one (packed ks n)
  packed_more low k ks n r a = by (settings_in k.packing.contents n) refl
    where
      -- a window stands in one other alone
      alone : (s : Settings) (b : Bool) → settings_in k.packing.contents n ≡ Some s → packed ks n ≡ b → b ≡ false
      alone s true is e =
          let p = packed_parent (k.window + 1) ks n r.1 a.1 e in
          let q = parent_is k.window k.packing.contents n a.0.children (ap (λ (o : Option Settings). is_some o) is) in
          absurd (omega (arith, some_same k.window p.0 (sym q ∙ p.2), p.1))
      alone s false is e = refl

      by : (o : Option Settings) → settings_in k.packing.contents n ≡ o → one (is_some (or_else o (packed_as (packings_of ks) n))) ≡ one (is_some o) + one (packed ks n)
      by None is = omega arith
      by (Some s) is = omega (arith, ap one (alone s (packed ks n) is refl))

  all_there : (m : ℕ) (ns : List ℕ) → AllByRecursion (λ n. tree.parent t n ≡ Some m) ns → AllByRecursion (λ n. is_some (tree.of_number t.windows n) ≡ true) ns
  all_there m [] h = tt
  all_there m (n ∷ ns) h = (there t n m h.0, all_there m ns h.1)

  pub all_packed : (low : ℕ) (ks : List Kept) → Rises (λ k. k.window) low ks → AllPackChildren t ks → Rise 0 t.windows t.next → count (packed ks) t.windows ≡ packed_count ks
  all_packed low [] r a numbered = count_none (packed []) t.windows (λ n. refl)
  all_packed low (k ∷ ks) r a numbered =
      let cs = k.packing.contents in
      omega (
        arith,
        count_either (has cs) (packed ks) (packed (k ∷ ks)) t.windows (λ n. packed_more low k ks n r a),
        contents_count 0 t.next t.windows cs numbered a.0.distinct (all_there k.window (map (λ c. c.window) cs) a.0.children),
        all_packed (k.window + 1) ks r.1 a.1 numbered,
      )

-- ---- lines

front : (a r s : List ℕ) (n : ℕ) → length r ≡ length s + n → length (a ++ r) ≡ length (a ++ s) + n
front a r s n e = omega (arith, length-append a r, length-append a s, e)

fronts : (a b c d e f g r s : List ℕ) (n : ℕ) → length r ≡ length s + n → length (a ++ (b ++ (c ++ (d ++ (e ++ (f ++ (g ++ r))))))) ≡ length (a ++ (b ++ (c ++ (d ++ (e ++ (f ++ (g ++ s))))))) + n
fronts a b c d e f g r s n h =
    front a (b ++ (c ++ (d ++ (e ++ (f ++ (g ++ r)))))) (b ++ (c ++ (d ++ (e ++ (f ++ (g ++ s)))))) n (
    front b (c ++ (d ++ (e ++ (f ++ (g ++ r))))) (c ++ (d ++ (e ++ (f ++ (g ++ s))))) n (
    front c (d ++ (e ++ (f ++ (g ++ r)))) (d ++ (e ++ (f ++ (g ++ s)))) n (
    front d (e ++ (f ++ (g ++ r))) (e ++ (f ++ (g ++ s))) n (
    front e (f ++ (g ++ r)) (f ++ (g ++ s)) n (
    front f (g ++ r) (g ++ s) n (
    front g r s n h))))))

-- a window that is packed has a longer line
line_size : (w : tree.Window) (k : Kept) (p : Option Settings) → length (line.write (line_with w k p)) ≡ length (line.write (line_with w k None)) + 12 * one (is_some p)
line_size w k None = omega arith
line_size w k (Some s) =
    let held = (content (options_of k.widget)).write k.widget in
    let x = packing.write (Some s) in
    let y = packing.write None in
    let size : length x ≡ 13 = ap (λ n. suc n) (settings_size s) in
    let last : length (x ++ held) ≡ length (y ++ held) + 12 = omega (arith, size, length-append x held, length-append y held) in
    let cs = contents.write (map (λ c. c.window) k.packing.contents) in
    let f = flag.write k.packing.propagates in
    let ts = tags.write k.tags in
    let os = (options w.class).write (options_of k.widget) in
    let c = class.write w.class in
    let path = text.write w.path in
    let n = (number w64).write w.number in
    fronts n path c os ts f cs (x ++ held) (y ++ held) 12 last

pub lines_size : (all : List Packed) (a b : Option Line) (ws : List tree.Window) (ks : List Kept) → length ws ≡ length ks
    → length (members (λ before. line) a (lines_from all ws ks)) ≡ length (members (λ before. line) b (lines_from [] ws ks)) + 12 * count (λ n. is_some (packed_as all n)) ws
lines_size all a b [] [] h = omega arith
lines_size all a b [] (k ∷ ks) h = absurd (omega (arith, h))
lines_size all a b (w ∷ ws) [] h = absurd (omega (arith, h))
lines_size all a b (w ∷ ws) (k ∷ ks) h =
    let l = line_of all w k in
    let m = line_of [] w k in
    omega (
      arith,
      length-append (line.write l) (members (λ before. line) (Some l) (lines_from all ws ks)),
      length-append (line.write m) (members (λ before. line) (Some m) (lines_from [] ws ks)),
      line_size w k (packed_as all w.number),
      lines_size all (Some l) (Some m) ws ks (omega (arith, h)),
    )

-- A first side is short: names of commands have 64 bytes at most, and there are fewer than 2^32 of them.
use Rattle.std.proofs.Common.{◌≡◌, ◌<◌, ◌≤◌, ◌+◌, ◌*◌, ◌^◌, ℕ, true, List, [], ◌∷◌, ◌++◌, length, Option, Some, None, refl, sym, ap, ◌∙◌, subst, arith, length-append}
use Rattle.std.specs.Prelude.{nat_le}
use Rattle.std.specs.Cmp.Lexicographic.{slice_cmp}
use Rattle.std.specs.FinMap as map
use Rattle.std.specs.Int.{w32, w64, to_be_bytes}
use Rattle.std.specs.Ordering.{nat_cmp}
use Rattle.std.proofs.lemmas.Bool.{leb-true}
use Rattle.std.proofs.lemmas.List.{nil_from_length}
use Rattle.tks_text.specs.Size.{Extent}
use Rattle.tks_spelling.specs.Header as headers
use Rattle.tks_spelling.specs.Spelling.{members, text}
use Rattle.tks_spelling.specs.declared.header.Header.{Header}
use Rattle.tks_app.specs.Applications.{AreNames}
use Rattle.tks_app.specs.Memories.{first_memories}
use Rattle.tks_app.proofs.Firsts.{entries_first, firsts}
use Rattle.tks_codec_events.specs.Held.{held}
use Rattle.tks_codec_events.specs.Queue.{queue}
use Rattle.tks_codec_events.specs.Timers.{waiting}
use Rattle.tks_vars.specs.Table.{Map}
use Rattle.tks_vars.specs.Variables.{no_variables}
use Rattle.tks_vars.specs.declared.content.Content as globals
use Rattle.tks_vars.specs.declared.procedure.Procedure.{Procedure}
use Rattle.tks_codec_variables.specs.Globals.{content}
use Rattle.tks_codec_variables.specs.Procedures.{procedure}
use Rattle.tks_codec_variables.specs.Table as tables
use Rattle.tks_codec_variables.specs.Variables.{variables}
use Rattle.tks_spelling.specs.declared.format.Format.TheVariants.{Two}
use Rattle.tks_codec.specs.Counts.{counts}
use Rattle.tks_codec.specs.Ends.{ends, memories}
use Rattle.tks_codec.specs.Happenings.{happenings}
use Rattle.tks_codec.specs.Windows.{windows}
use Rattle.tks_codec.specs.World as codec
use Rattle.tks_codec.specs.World.{counts_of, happenings_of, ends_of}
use Rattle.tks_event.specs.Held.{nothing_held}
use Rattle.tks_bind.specs.Binding.{Content, nothing}
use Rattle.tks_state.specs.FirstTable.{first_table}
use Rattle.tks_state.proofs.FirstTable.{bound_to, first_are_bound, sequences}
use Rattle.tks_state.specs.World.{World, first_world, windows_of}
use Rattle.tks_session.proofs.Names.{name_parts}

-- ---- names

text_length : (t : List ℕ) → length t ≤ 64 → length (text.write t) ≤ 68
text_length t short = omega (arith, short, length-append (to_be_bytes w32 (length t)) t)

names_length : (before : Option (List ℕ)) (names : List (List ℕ)) → AreNames names → length (members headers.name before names) ≤ 68 * length names
names_length before [] are = omega arith
names_length before (name ∷ names) are =
    omega (arith, text_length name (name_parts name are.0).0, names_length (Some name) names are.2, length-append (text.write name) (members headers.name (Some name) names))

-- ---- headers

pub header_short : (h : Header) → AreNames h.names → length h.names < 2 ^ 32 → length (headers.header.write h) < 2 ^ 40
header_short h are few =
    let gen = to_be_bytes w64 h.generation in
    let grid = headers.grid.write h.grid in
    let count = to_be_bytes w32 (length h.names) in
    let each = members headers.name None h.names in
    let last = to_be_bytes w64 h.world_length in
    let in_front : length gen ≡ 8 = refl in
    let of_grid : length grid ≡ 4 = refl in
    let of_count : length count ≡ 4 = refl in
    let at_end : length last ≡ 8 = refl in
    omega (
      arith,
      few,
      in_front,
      of_grid,
      of_count,
      at_end,
      names_length None h.names are,
      length-append gen (grid ++ ((count ++ each) ++ last)),
      length-append grid ((count ++ each) ++ last),
      length-append (count ++ each) last,
      length-append count each,
    )

-- ---- memories of the first world

firsts_length : (before : Option (List ℕ × List ℕ)) (names : List (List ℕ)) → AreNames names → length (members (tables.next text) before (firsts names)) ≤ 72 * length names
firsts_length before [] are = omega arith
firsts_length before (name ∷ names) are =
    let entry = text.write name ++ text.write [] in
    let empty : length (text.write []) ≡ 4 = refl in
    omega (
      arith,
      empty,
      text_length name (name_parts name are.0).0,
      firsts_length (Some (name, [])) names are.2,
      length-append (text.write name) (text.write []),
      length-append entry (members (tables.next text) (Some (name, [])) (firsts names)),
    )

memories_length : (names : List (List ℕ)) → AreNames names → length (memories.write (first_memories names)) ≤ 72 * length names + 4
memories_length names are =
    let entries = map.entries (first_memories names) in
    let count = to_be_bytes w32 (length entries) in
    let of_count : length count ≡ 4 = refl in
    let same : length (members (tables.next text) None entries) ≡ length (members (tables.next text) None (firsts names)) =
    ap (λ (es : List (List ℕ × List ℕ)). length (members (tables.next text) None es)) (entries_first names are) in
    omega (arith, of_count, same, firsts_length None names are, length-append count (members (tables.next text) None entries))

-- ---- the first world

at_most : (part : List ℕ) → nat_le (length part) 10_000 ≡ true → length part ≤ 10_000
at_most part h = leb-true (length part) 10_000 h

joined : (first others : List ℕ) (a b : ℕ) → length first ≤ a → length others ≤ b → length (first ++ others) ≤ a + b
joined first others a b h k = omega (arith, h, k, length-append first others)

-- a map of nothing has no entries
abbrev none_of : (X : Type 0) → Map X
none_of X = map.empty

no_entries : (X : Type 0) → map.entries (none_of X) ≡ []
no_entries X = nil_from_length (map.entries (none_of X)) (sym (map.len-entries (none_of X)) ∙ map.len-empty (slice_cmp nat_cmp) X)

variables_length : length (variables.write no_variables) ≤ 10_000
variables_length =
    subst (λ (es : List (List ℕ × globals.Content)). length ((tables.entries content).write es ++ (tables.entries procedure).write (map.entries (none_of Procedure))) ≤ 10_000) (sym (no_entries globals.Content))
    (subst (λ (es : List (List ℕ × Procedure)). length ((tables.entries content).write [] ++ (tables.entries procedure).write es) ≤ 10_000) (sym (no_entries Procedure))
    (at_most ((tables.entries content).write [] ++ (tables.entries procedure).write []) refl))

-- what the lines of the table bind
abbrev table : Content
table = bound_to first_table sequences nothing

module _ (grid : Extent) (names : List (List ℕ)) (are : AreNames names) where
  abbrev w : World
  w = first_world grid names

  ends_length : length ((ends Two).write (ends_of w)) ≤ 72 * length names + 100
  ends_length =
      let focus = to_be_bytes w64 0 in
      let front : length focus ≡ 8 = refl in
      let keys : length (held.write nothing_held) ≡ 2 = refl in
      let rest : List ℕ = 0 ∷ 0 ∷ 0 ∷ 0 ∷ 1 ∷ [] in
      omega (
        arith,
        front,
        keys,
        memories_length names are,
        length-append focus (held.write nothing_held ++ (0 ∷ memories.write (first_memories names) ++ rest)),
        length-append (held.write nothing_held) (0 ∷ memories.write (first_memories names) ++ rest),
        length-append (memories.write (first_memories names)) rest,
      )

  -- the bindings, as the lines of their table leave them
  happenings_length : length ((happenings w.bindings.next).write (happenings_of w)) ≤ 10_000
  happenings_length =
      subst (λ (c : Content). length ((happenings c.next).write (record { bindings = c; virtuals = []; history = [] })) ≤ 10_000) (sym first_are_bound) (at_most ((happenings table.next).write (record { bindings = table; virtuals = []; history = [] })) refl)

  -- what stands behind the windows, and behind each part that follows
  abbrev last_two : List ℕ
  last_two = (waiting w.timers.next).write w.timers ++ (ends Two).write (ends_of w)

  abbrev last_three : List ℕ
  last_three = queue.write w.queue ++ last_two

  abbrev last_four : List ℕ
  last_four = (happenings w.bindings.next).write (happenings_of w) ++ last_three

  abbrev last_five : List ℕ
  last_five = variables.write w.variables ++ last_four

  pub first_length : length ((codec.world Two grid).write w) ≤ 10_000 + (10_000 + (10_000 + (10_000 + (10_000 + (10_000 + (72 * length names + 100))))))
  first_length =
      joined (counts.write (counts_of w)) ((windows w.tree.next).write (windows_of w) ++ last_five) 10_000 _ (at_most (counts.write (counts_of w)) refl)
      (joined ((windows w.tree.next).write (windows_of w)) last_five 10_000 _ (at_most ((windows w.tree.next).write (windows_of w)) refl)
      (joined (variables.write w.variables) last_four 10_000 _ variables_length
      (joined ((happenings w.bindings.next).write (happenings_of w)) last_three 10_000 _ happenings_length
      (joined (queue.write w.queue) last_two 10_000 _ (at_most (queue.write w.queue) refl)
      (joined ((waiting w.timers.next).write w.timers) ((ends Two).write (ends_of w)) 10_000 _ (at_most ((waiting w.timers.next).write w.timers) refl) ends_length)))))

pub first_short : (grid : Extent) (names : List (List ℕ)) → AreNames names → length names < 2 ^ 32 → length ((codec.world Two grid).write (first_world grid names)) < 2 ^ 40
first_short grid names are few = omega (arith, few, first_length grid names are)

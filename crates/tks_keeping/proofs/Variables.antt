-- What commands do to variables and procedures passes no limit.
use Rattle.std.proofs.Common.{◌≡◌, ℕ, ◌+◌, ◌-◌, ◌==◌, Bool, true, false, true≢false, ◌&&◌, if◌then◌else◌, List, [], ◌∷◌, length, take, drop, Option, Some, None, option_map, IfSome, Result, Ok, Err, IfOk, refl, sym, ap, subst, ◌∙◌, arith}
use Rattle.std.specs.Prelude.{nat_lt, is_some, option_and_then, position}
use Rattle.std.specs.FinMap as fin
use Rattle.std.proofs.lemmas.Bool.{and_parts, and_from}
use Rattle.std.proofs.lemmas.Bool.Decides.{nat_tests}
use Rattle.tks_share.specs.Names.{order}
use Rattle.tks_text.specs.declared.fault.ErrorNumber.{ErrorNumber}
use Rattle.tks_text.specs.declared.fault.ErrorNumber.TheVariants.{NoSuchVariable}
use Rattle.tks_text.specs.declared.fault.ScriptFault.{ScriptFault}
use Rattle.tks_text.specs.declared.limits.Limits.{Limits}
use Rattle.tks_text.specs.Limits.{fits}
use Rattle.tks_vars.specs.Table.{Map}
use Rattle.tks_vars.specs.Names.{Name, closed, element_named, named_behind, named_in, named}
use Rattle.tks_vars.specs.Variables as variables
use Rattle.tks_vars.specs.Variables.{Variables, Frame, updated, taken, without_element, innermost, seen_through, content_in, content_of, is_link, is_global, changed, with_content, without_content, left_with, about, on_name, with_value, with_global_value, with_link, with_link_in, with_global_link, pushed_global, popped, back, with_procedure, size_in, grown_inside, grown, grown_by_value, grown_by_global_value}
use Rattle.tks_vars.specs.declared.content.Content.{Content}
use Rattle.tks_vars.specs.declared.content.Content.TheVariants.{Scalar, Array}
use Rattle.tks_vars.specs.declared.content.Local.{Local}
use Rattle.tks_vars.specs.declared.content.Local.TheVariants.{Own, Link}
use Rattle.tks_vars.specs.declared.procedure.Procedure.{Procedure}
use Rattle.tks_tcl.specs.Cause as tcl
use Rattle.tks_tcl.specs.Cause.{Cause, OverLimit, value_or_fault}
use Rattle.tks_tcl.specs.Variables.{Changed, may_grow, stores, stores_global}
use Rattle.tks_limits.specs.Within.{elements_fit, global_fits, globals_fit, procedure_fits, procedures_fit, variables_fit}
use Rattle.tks_keeping.proofs.Texts.{tested_so, TextFits, front_fits, rest_fits}
use Rattle.tks_keeping.proofs.Tables.{HasRoom, insert_fits, remove_fits, no_name_fits, found_fits}

-- ---- what follows

-- what follows has P, where what it follows on has Q
after_so : {X Y : Type 0} (Q : X → Type 0) (P : Y → Type 0) (r : Result X ErrorNumber) (next : X → Y) → IfOk r Q → ((x : X) → Q x → P (next x)) → IfOk (variables.after r next) P
after_so Q P (Ok x) next q h = h x q
after_so Q P (Err number) next q h = tt

-- what holds where A does
implied : {X E : Type 0} (P : X → Type 0) (A : Type 0) (r : Result X E) → (A → IfOk r P) → IfOk r (λ x. A → P x)
implied P A (Ok x) h = h
implied P A (Err e) h = tt

-- an error of a name is told about it
pub told_so : {X : Type 0} (P : X → Type 0) (text : List ℕ) (r : Result X ErrorNumber) → IfOk r P → IfOk (about text r) P
told_so P text (Ok x) h = h
told_so P text (Err number) h = tt

module _ (limits : Limits) where
  abbrev GlobalFits : Content → Type 0
  GlobalFits c = global_fits limits c ≡ true

  -- that variables pass no limit
  abbrev pub VariablesFit : Variables → Type 0
  VariablesFit v = variables_fit limits v ≡ true

  -- ---- names

  -- the variable and the index of a name
  abbrev NameFits : Name → Type 0
  NameFits n = TextFits limits n.variable × IfSome n.index (TextFits limits)

  element_fits : (variable index : List ℕ) → TextFits limits variable → TextFits limits index → IfSome (element_named variable index) NameFits
  element_fits [] index h k = tt
  element_fits (c ∷ variable) index h k = (h, k)

  closed_by : (b : Bool) (t : List ℕ) → TextFits limits t → IfSome (if b then Some t else None) (TextFits limits)
  closed_by true t h = h
  closed_by false t h = tt

  behind_fits : (text variable : List ℕ) (o : Option (List ℕ)) → TextFits limits text → TextFits limits variable → IfSome o (TextFits limits) → IfSome (named_behind text variable o) NameFits
  behind_fits text variable None h k i = (h, tt)
  behind_fits text variable (Some index) h k i = element_fits variable index k i

  halves_fit : (text : List ℕ) → TextFits limits text → (o : Option ℕ) → IfSome (named_in text (option_map (λ open_at. (take open_at text, drop (open_at + 1) text)) o)) NameFits
  halves_fit text h None = (h, tt)
  halves_fit text h (Some n) =
      let behind : List ℕ = drop (n + 1) text in
      let index : List ℕ = take (length behind - 1) behind in
      behind_fits text (take n text) (closed behind) h (front_fits limits n text h) (closed_by _ index (front_fits limits (length behind - 1) behind (rest_fits limits (n + 1) text h)))

  -- the parts of a name
  named_fits : (text : List ℕ) → TextFits limits text → IfSome (named text) NameFits
  named_fits text h = halves_fit text h (position (λ b. b == 40) text)

  -- ---- what stands under a name

  room_by : (b : Bool) (n : ℕ) → may_grow limits (if b then None else Some n) ≡ true → b ≡ false → nat_lt n limits.items ≡ true
  room_by true n g e = absurd (true≢false e)
  room_by false n g e = g

  first_element : (index value : List ℕ) (size : ℕ) → TextFits limits index → TextFits limits value → nat_lt size limits.items ≡ true → elements_fit limits (fin.insert fin.empty index value) ≡ true
  first_element index value size i h g =
      let none : fin.len (fin.empty {X = List ℕ} {R = order}) ≡ 0 = fin.len-empty order (List ℕ) in
      let one : nat_lt 0 limits.items ≡ true = grind (arith, nat_tests) in
      insert_fits limits (fits limits) fin.empty index value i h (λ e. subst (λ n. nat_lt n limits.items ≡ true) (sym none) one) (no_name_fits limits (fits limits))

  updated_fits : (o : Option Content) (index : Option (List ℕ)) (value : List ℕ) (size : ℕ) → IfSome o GlobalFits → IfSome index (TextFits limits) → TextFits limits value
      → may_grow limits (grown o index size) ≡ true → IfOk (updated o index value) GlobalFits
  updated_fits None None value size c i h g = h
  updated_fits None (Some index) value size c i h g = first_element index value size i h g
  updated_fits (Some (Scalar old)) None value size c i h g = h
  updated_fits (Some (Scalar old)) (Some index) value size c i h g = tt
  updated_fits (Some (Array elements)) None value size c i h g = tt
  updated_fits (Some (Array elements)) (Some index) value size c i h g =
      insert_fits limits (fits limits) elements index value i h (room_by (fin.contains_key elements index) (fin.len elements) g) c

  -- what an unset leaves: nothing, or what stood there without an element
  abbrev IsLeft : Option Content → Option Content → Type 0
  IsLeft o x = IfSome x (λ c. GlobalFits c × (is_some o ≡ true))

  element_left : (elements : Map (List ℕ)) (index : List ℕ) (b : Bool) → elements_fit limits elements ≡ true
      → IfOk (if b then Ok (Some (Array (fin.remove elements index))) else Err NoSuchVariable) (IsLeft (Some (Array elements)))
  element_left elements index true h = (remove_fits limits (fits limits) elements index h, refl)
  element_left elements index false h = tt

  taken_fits : (o : Option Content) (index : Option (List ℕ)) → IfSome o GlobalFits → IfOk (taken o index) (IsLeft o)
  taken_fits None index c = tt
  taken_fits (Some content) None c = tt
  taken_fits (Some (Scalar value)) (Some index) c = tt
  taken_fits (Some (Array elements)) (Some index) c = element_left elements index (fin.contains_key elements index) c

  -- ---- a name that is a global's

  module _ (globals : Map Content) (name : List ℕ) where
    content_by : (local : Option Local) → is_link local ≡ true → seen_through local (fin.get globals name) ≡ fin.get globals name
    content_by None e = absurd (true≢false (sym e))
    content_by (Some (Own content)) e = absurd (true≢false (sym e))
    content_by (Some Link) e = refl

    content_global : (frame : Option Frame) → is_global frame name ≡ true → content_in globals frame name ≡ fin.get globals name
    content_global None e = refl
    content_global (Some frame) e = content_by (fin.get frame name) e

    size_global : (frame : Option Frame) → is_global frame name ≡ true → size_in globals frame name ≡ fin.len globals
    size_global None e = refl
    size_global (Some frame) e = ap (λ b. if b then fin.len globals else fin.len frame) e

  globals_of : (v : Variables) → VariablesFit v → globals_fit limits v.globals ≡ true
  globals_of v h = (and_parts (globals_fit limits v.globals) (procedures_fit limits v.procedures) h).0

  procedures_of : (v : Variables) → VariablesFit v → procedures_fit limits v.procedures ≡ true
  procedures_of v h = (and_parts (globals_fit limits v.globals) (procedures_fit limits v.procedures) h).1

  -- ---- one change

  put_content : (v : Variables) (name : List ℕ) (c : Content) (b : Bool) → TextFits limits name → VariablesFit v → (b ≡ true → GlobalFits c × HasRoom limits (global_fits limits) v.globals name)
      → VariablesFit (if b then record v { globals = fin.insert v.globals name c } else record v { locals = changed (λ frame. fin.insert frame name (Own c)) v.locals })
  put_content v name c true n h k =
      and_from (globals_fit limits (fin.insert v.globals name c)) (procedures_fit limits v.procedures)
      (insert_fits limits (global_fits limits) v.globals name c n (k refl).0 (k refl).1 (globals_of v h)) (procedures_of v h)
  put_content v name c false n h k = h

  take_content : (v : Variables) (name : List ℕ) (b : Bool) → VariablesFit v
      → VariablesFit (if b then record v { globals = fin.remove v.globals name } else record v { locals = changed (λ frame. fin.remove frame name) v.locals })
  take_content v name true h =
      and_from (globals_fit limits (fin.remove v.globals name)) (procedures_fit limits v.procedures) (remove_fits limits (global_fits limits) v.globals name (globals_of v h)) (procedures_of v h)
  take_content v name false h = h

  content_of_fits : (v : Variables) (name : List ℕ) → VariablesFit v → is_global (innermost v.locals) name ≡ true → IfSome (content_of v name) GlobalFits
  content_of_fits v name h e =
      subst (λ o. IfSome o GlobalFits) (sym (content_global v.globals name (innermost v.locals) e)) (found_fits limits (global_fits limits) v.globals name (globals_of v h))

  room_of : (o : Option Content) (index : Option (List ℕ)) (n : ℕ) → may_grow limits (grown o index n) ≡ true → is_some o ≡ false → nat_lt n limits.items ≡ true
  room_of None index n g e = g
  room_of (Some c) index n g e = absurd (true≢false e)

  -- room for a name, where what grows by a value may
  room_for : (v : Variables) (name : List ℕ) (index : Option (List ℕ)) → may_grow limits (grown (content_of v name) index (size_in v.globals (innermost v.locals) name)) ≡ true
      → is_global (innermost v.locals) name ≡ true → HasRoom limits (global_fits limits) v.globals name
  room_for v name index g e =
      let frame : Option Frame = innermost v.locals in
      let same : may_grow limits (grown (fin.get v.globals name) index (fin.len v.globals)) ≡ true =
      sym (ap (λ o. may_grow limits (grown o index (size_in v.globals frame name))) (content_global v.globals name frame e)
      ∙ ap (λ n. may_grow limits (grown (fin.get v.globals name) index n)) (size_global v.globals name frame e)) ∙ g in
      room_of (fin.get v.globals name) index (fin.len v.globals) same

  name_given : (v : Variables) (text value : List ℕ) → VariablesFit v → TextFits limits value → (o : Option Name) → IfSome o NameFits
      → may_grow limits (option_and_then (λ n. grown (content_of v n.variable) n.index (size_in v.globals (innermost v.locals) n.variable)) o) ≡ true
      → IfOk (about text (on_name o (λ n. variables.after (updated (content_of v n.variable) n.index value) (with_content v n.variable)))) VariablesFit
  name_given v text value h k None n g = tt
  name_given v text value h k (Some x) n g =
      let at : Type 0 = is_global (innermost v.locals) x.variable ≡ true in
      told_so VariablesFit text _
      (after_so (λ c. at → GlobalFits c) VariablesFit (updated (content_of v x.variable) x.index value) (with_content v x.variable)
      (implied GlobalFits at (updated (content_of v x.variable) x.index value) (λ e. updated_fits (content_of v x.variable) x.index value _ (content_of_fits v x.variable h e) n.1 k g))
      (λ c q. put_content v x.variable c (is_global (innermost v.locals) x.variable) n.0 h (λ e. (q e, room_for v x.variable x.index g e))))

  -- a name is given a value
  value_given_fits : (v : Variables) (name value : List ℕ) → VariablesFit v → TextFits limits name → TextFits limits value → may_grow limits (grown_by_value v name) ≡ true
      → IfOk (with_value v name value) VariablesFit
  value_given_fits v name value h n k g = name_given v name value h k (named name) (named_fits name n) g

  back_fits : (r : Result Variables ScriptFault) → IfOk r VariablesFit → IfOk (back r) VariablesFit
  back_fits (Ok v) h = h
  back_fits (Err fault) h = tt

  -- a global is given a value
  global_given_fits : (v : Variables) (name value : List ℕ) → VariablesFit v → TextFits limits name → TextFits limits value → may_grow limits (grown_by_global_value v name) ≡ true
      → IfOk (with_global_value v name value) VariablesFit
  global_given_fits v name value h n k g = back_fits (with_value (pushed_global v) name value) (value_given_fits (pushed_global v) name value h n k g)

  left_fits : (v : Variables) (name : List ℕ) (x : Option Content) → VariablesFit v → TextFits limits name → (is_global (innermost v.locals) name ≡ true → IsLeft (content_of v name) x)
      → VariablesFit (left_with v name x)
  left_fits v name None h n k = take_content v name (is_global (innermost v.locals) name) h
  left_fits v name (Some c) h n k =
      let there : is_global (innermost v.locals) name ≡ true → HasRoom limits (global_fits limits) v.globals name =
      λ e out. absurd (true≢false (sym (k e).1 ∙ ap is_some (content_global v.globals name (innermost v.locals) e) ∙ out)) in
      put_content v name c (is_global (innermost v.locals) name) n h (λ e. ((k e).0, there e))

  name_unset : (v : Variables) (text : List ℕ) → VariablesFit v → (o : Option Name) → IfSome o NameFits
      → IfOk (about text (on_name o (λ n. variables.after (taken (content_of v n.variable) n.index) (left_with v n.variable)))) VariablesFit
  name_unset v text h None n = tt
  name_unset v text h (Some x) n =
      let at : Type 0 = is_global (innermost v.locals) x.variable ≡ true in
      told_so VariablesFit text _
      (after_so (λ c. at → IsLeft (content_of v x.variable) c) VariablesFit (taken (content_of v x.variable) x.index) (left_with v x.variable)
      (implied (IsLeft (content_of v x.variable)) at (taken (content_of v x.variable) x.index) (λ e. taken_fits (content_of v x.variable) x.index (content_of_fits v x.variable h e)))
      (λ c q. left_fits v x.variable c h n.0 q))

  -- a name is unset
  pub unset_fits : (v : Variables) (name : List ℕ) → VariablesFit v → TextFits limits name → IfOk (variables.without v name) VariablesFit
  unset_fits v name h n = name_unset v name h (named name) (named_fits name n)

  link_by_frame : (v : Variables) (frame : Option Frame) (name : List ℕ) → VariablesFit v → IfOk (with_link_in v frame name) VariablesFit
  link_by_frame v None name h = h
  link_by_frame v (Some frame) name h = linked (with_link frame name)
    where
      linked : (r : Result Frame ErrorNumber) → IfOk (variables.after r (λ new. record v { locals = changed (λ _. new) v.locals })) VariablesFit
      linked (Ok new) = h
      linked (Err number) = tt

  -- a name is made a link
  pub link_fits : (v : Variables) (name : List ℕ) → VariablesFit v → IfOk (with_global_link v name) VariablesFit
  link_fits v name h = told_so VariablesFit name _ (link_by_frame v (innermost v.locals) name h)

  -- a procedure is put under a name
  pub procedure_put_fits : (v : Variables) (name : List ℕ) (procedure : Procedure) → VariablesFit v → TextFits limits name → procedure_fits limits procedure ≡ true
      → HasRoom limits (procedure_fits limits) v.procedures name → VariablesFit (with_procedure v name procedure)
  procedure_put_fits v name procedure h n k room =
      and_from (globals_fit limits v.globals) (procedures_fit limits (fin.insert v.procedures name procedure)) (globals_of v h)
      (insert_fits limits (procedure_fits limits) v.procedures name procedure n k room (procedures_of v h))

  -- ---- what commands store

  -- an answer and the variables that are left
  abbrev pub ChangedFits : Changed → Type 0
  ChangedFits x = TextFits limits x.0 × VariablesFit x.1

  stored : (value : List ℕ) (r : Result Variables ScriptFault) → TextFits limits value → IfOk r VariablesFit → IfOk (tcl.after (value_or_fault r) (λ new. Ok (value, new))) ChangedFits
  stored value (Ok new) h k = (h, k)
  stored value (Err fault) h k = tt

  -- a value that is stored under a name
  pub stores_fit : (name : List ℕ) → TextFits limits name → (v : Variables) → VariablesFit v → (value : List ℕ) → IfOk (stores limits name v value) ChangedFits
  stores_fit name n v h value =
      tested_so ChangedFits (fits limits value && may_grow limits (grown_by_value v name)) _ (λ both.
      let b = and_parts (fits limits value) (may_grow limits (grown_by_value v name)) both in
      stored value (with_value v name value) b.0 (value_given_fits v name value h n b.0 b.1))

  -- the same of a global
  pub stores_global_fit : (name : List ℕ) → TextFits limits name → (v : Variables) → VariablesFit v → (value : List ℕ) → IfOk (stores_global limits name v value) ChangedFits
  stores_global_fit name n v h value =
      tested_so ChangedFits (fits limits value && may_grow limits (grown_by_global_value v name)) _ (λ both.
      let b = and_parts (fits limits value) (may_grow limits (grown_by_global_value v name)) both in
      stored value (with_global_value v name value) b.0 (global_given_fits v name value h n b.0 b.1))

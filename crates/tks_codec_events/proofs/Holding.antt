-- What holds of the spellings of what is held down.
use Rattle.std.proofs.Common.{◌≡◌, ℕ, zero, suc, ◌/◌, ◌%◌, ◌<◌, ◌≤◌, Bool, true, false, refl, sym, ap, ◌∙◌, arith}
use Rattle.std.specs.Prelude.{◌==◌}
use Rattle.std.proofs.lemmas.Bool.{lt-ltb, ltb-true}
use Rattle.tks_event.specs.declared.held.Held.{Held}
use Rattle.tks_spelling.specs.Spelling.{Lawful, byte, flag_of}
use Rattle.tks_spelling.proofs.EachKind.{byte_lawful, test_lawful, field_lawful, through_lawful}
use Rattle.tks_codec_events.specs.Held.{keys_number, buttons_number, is_odd, held_by, are_keys, are_buttons, held}

-- ---- bits

bit_told : (r : ℕ) → r < 2 → flag_of (r == 1) ≡ r
bit_told zero lt = refl
bit_told (suc zero) lt = refl
bit_told (suc (suc r)) lt = absurd (omega (arith, lt))

odd_told : (n : ℕ) → flag_of (is_odd n) ≡ n % 2
odd_told n = bit_told (n % 2) (omega arith)

odd_so : (b : Bool) (n : ℕ) → n % 2 ≡ flag_of b → is_odd n ≡ b
odd_so true n e = rw e refl
odd_so false n e = rw e refl

at_most : (b : Bool) → flag_of b ≤ 1
at_most true = omega arith
at_most false = omega arith

-- ---- both ways

keys_told : (keys buttons : ℕ) → keys < 128 → keys_number (held_by keys buttons) ≡ keys
keys_told n m lt = rw (odd_told n, odd_told (n / 2), odd_told (n / 4), odd_told (n / 8), odd_told (n / 16), odd_told (n / 32), odd_told (n / 64)) (omega (arith, lt))

buttons_told : (keys buttons : ℕ) → buttons < 32 → buttons_number (held_by keys buttons) ≡ buttons
buttons_told n m lt = rw (odd_told m, odd_told (m / 2), odd_told (m / 4), odd_told (m / 8), odd_told (m / 16)) (omega (arith, lt))

pub held_lawful : Lawful held
held_lawful =
    field_lawful keys_number _ _ (λ keys h k l. ap keys_number l.1 ∙ keys_told keys (buttons_number h) (ltb-true keys 128 k.1)) (test_lawful are_keys byte (λ v h. omega arith) byte_lawful) (λ keys.
    through_lawful buttons_number _ _ (λ buttons k. buttons_told keys buttons (ltb-true buttons 32 k.1)) (test_lawful are_buttons byte (λ v h. omega arith) byte_lawful))

made : {a b c d e f g h i j k l a' b' c' d' e' f' g' h' i' j' k' l' : Bool} → a ≡ a' → b ≡ b' → c ≡ c' → d ≡ d' → e ≡ e' → f ≡ f' → g ≡ g' → h ≡ h' → i ≡ i' → j ≡ j' → k ≡ k' → l ≡ l'
    → ◌≡◌ {A = Held} (record { shift_left = a; shift_right = b; control_left = c; control_right = d; alt_left = e; alt_right = f; lock = g; button1 = h; button2 = i; button3 = j; button4 = k; button5 = l })
    (record { shift_left = a'; shift_right = b'; control_left = c'; control_right = d'; alt_left = e'; alt_right = f'; lock = g'; button1 = h'; button2 = i'; button3 = j'; button4 = k'; button5 = l' })
made p1 p2 p3 p4 p5 p6 p7 p8 p9 p10 p11 p12 = cc

-- all that may be held has a spelling
pub held_legal : (h : Held) → held.Legal h
held_legal h =
    let a = at_most h.shift_left in
    let b = at_most h.shift_right in
    let c = at_most h.control_left in
    let d = at_most h.control_right in
    let e = at_most h.alt_left in
    let f = at_most h.alt_right in
    let g = at_most h.lock in
    let p = at_most h.button1 in
    let q = at_most h.button2 in
    let r = at_most h.button3 in
    let s = at_most h.button4 in
    let t = at_most h.button5 in
    let keys : keys_number h < 128 = omega (arith, a, b, c, d, e, f, g) in
    let buttons : buttons_number h < 32 = omega (arith, p, q, r, s, t) in
    let same : held_by (keys_number h) (buttons_number h) ≡ h =
    made (odd_so h.shift_left (keys_number h) (omega (arith, a, b, c, d, e, f, g)))
    (odd_so h.shift_right (keys_number h / 2) (omega (arith, a, b, c, d, e, f, g)))
    (odd_so h.control_left (keys_number h / 4) (omega (arith, a, b, c, d, e, f, g)))
    (odd_so h.control_right (keys_number h / 8) (omega (arith, a, b, c, d, e, f, g)))
    (odd_so h.alt_left (keys_number h / 16) (omega (arith, a, b, c, d, e, f, g)))
    (odd_so h.alt_right (keys_number h / 32) (omega (arith, a, b, c, d, e, f, g)))
    (odd_so h.lock (keys_number h / 64) (omega (arith, a, b, c, d, e, f, g)))
    (odd_so h.button1 (buttons_number h) (omega (arith, p, q, r, s, t)))
    (odd_so h.button2 (buttons_number h / 2) (omega (arith, p, q, r, s, t)))
    (odd_so h.button3 (buttons_number h / 4) (omega (arith, p, q, r, s, t)))
    (odd_so h.button4 (buttons_number h / 8) (omega (arith, p, q, r, s, t)))
    (odd_so h.button5 (buttons_number h / 16) (omega (arith, p, q, r, s, t)))
    in
    ((omega (arith, keys), lt-ltb (keys_number h) 128 keys), ((omega (arith, buttons), lt-ltb (buttons_number h) 32 buttons), sym same))

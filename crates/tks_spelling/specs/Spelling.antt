-- Spellings: how values are written as bytes and read back (this project's own format).
use Rattle.std.specs.Prelude.{◌≡◌, ℕ, ℤ, zero, suc, ◌<◌, ◌≤◌, ◌*◌, ◌^◌, Bool, true, false, List, [], ◌∷◌, ◌++◌, length, take, drop, get_or, Option, Some, None, Result, Ok, Err, nat_lt, nat_le, ◌==◌, if◌then◌else◌}
use Rattle.std.specs.Int.{Width, w32, byte_len, to_be_bytes, from_be_bytes, cast_unsigned, cast_signed}
use Rattle.std.specs.Ordering.{is_lt, nat_cmp}
use Rattle.std.specs.Cmp.Lexicographic.{slice_cmp}
use Rattle.tks_text.specs.Text.{is_text_byte, IsText}

-- What reading finds at the front of bytes: a value, and what stands behind it; or how many bytes are left,
-- from the first one on with which no spelling goes on. None are left where the bytes end too early.
abbrev pub Read : Type 0 → Type 0
Read T = Result (T × List ℕ) ℕ

-- what is read, and then what follows from it; a fault stays
infixl 10 ◌>>=◌
abbrev pub ◌>>=◌ : {A B : Type 0} → Result A ℕ → (A → Result B ℕ) → Result B ℕ
(Ok x) >>= f = f x
(Err left) >>= f = Err left

-- how the values of a kind are spelled
pub record Spelling (T : Type 0) : Type 1 where
  -- which values have a spelling
  pub Legal : T → Type 0
  -- the spelling
  pub write : T → List ℕ
  -- the value at the front of bytes
  pub read : List ℕ → Read T

-- these bytes spell this value, and this stands behind them
pub record Spells {T : Type 0} (s : Spelling T) (bytes : List ℕ) (value : T) (rest : List ℕ) : Type 0 where
  pub legal : s.Legal value
  pub parts : bytes ≡ s.write value ++ rest

-- each number is a byte
abbrev pub IsBytes : List ℕ → Type 0
IsBytes bytes = (i : ℕ) → get_or bytes i 0 < 256

-- what holds of each kind's spellings
pub record Lawful {T : Type 0} (s : Spelling T) : Type 0 where
  -- what is spelled is read, whatever stands behind it
  pub reads_back : (value : T) (rest : List ℕ) → s.Legal value → s.read (s.write value ++ rest) ≡ Ok (value, rest)
  -- nothing else is read
  pub nothing_else : (bytes : List ℕ) (value : T) (rest : List ℕ) → IsBytes bytes → s.read bytes ≡ Ok (value, rest) → Spells s bytes value rest
  -- a fault stands in the bytes or at their end
  pub within : (bytes : List ℕ) (left : ℕ) → IsBytes bytes → s.read bytes ≡ Err left → left ≤ length bytes
  -- from the byte at fault on it doesn't matter what stands there
  pub sure : (front : List ℕ) (byte : ℕ) (behind other : List ℕ) → IsBytes (front ++ byte ∷ behind) → s.read (front ++ byte ∷ behind) ≡ Err (suc (length behind)) → s.read (front ++ byte ∷ other) ≡ Err (suc (length other))
  -- what stands before the byte at fault only ends too early
  pub early : (front : List ℕ) (byte : ℕ) (behind : List ℕ) → IsBytes (front ++ byte ∷ behind) → s.read (front ++ byte ∷ behind) ≡ Err (suc (length behind)) → s.read front ≡ Err 0
  -- of a spelling that is cut the end is at fault
  pub cut : (value : T) (front : List ℕ) (byte : ℕ) (behind : List ℕ) → s.Legal value → s.write value ≡ front ++ byte ∷ behind → s.read front ≡ Err 0

-- ---- one value

-- a number of so many bytes, the highest first
unfoldable pub number_at : Width → List ℕ → Read ℕ
number_at w bytes = if nat_lt (length bytes) (byte_len w) then Err 0 else Ok (from_be_bytes w (take (byte_len w) bytes), drop (byte_len w) bytes)

-- a number that so many bytes hold
abbrev pub number : Width → Spelling ℕ
number w = record { Legal = λ n. n < 2 ^ (8 * byte_len w); write = λ n. to_be_bytes w n; read = number_at w }

-- the byte at the front
abbrev pub byte_at : List ℕ → Read ℕ
byte_at [] = Err 0
byte_at (b ∷ rest) = Ok (b, rest)

-- a byte
abbrev pub byte : Spelling ℕ
byte = record { Legal = λ b. b < 256; write = λ b. b ∷ []; read = byte_at }

-- a value that was read, where it passes a test; that it doesn't is known with the last byte of its spelling
abbrev pub passed : {T : Type 0} → (T → Bool) → T × List ℕ → Read T
passed test found = if test found.0 then Ok found else Err (suc (length found.1))

-- those values that pass a test
abbrev pub such_that : {T : Type 0} → (T → Bool) → Spelling T → Spelling T
such_that test s = record {
  Legal = λ value. s.Legal value × (test value ≡ true);
  write = s.write;
  read = λ bytes. s.read bytes >>= passed test;
}

-- ---- fields one behind the other

-- A value whose field is spelled first. How the others are spelled may depend on that field.
abbrev pub field : {A T : Type 0} → (T → A) → Spelling A → (A → Spelling T) → Spelling T
field get first others = record {
  Legal = λ value. first.Legal (get value) × (others (get value)).Legal value;
  write = λ value. first.write (get value) ++ (others (get value)).write value;
  read = λ bytes. first.read bytes >>= λ found. (others found.0).read found.1;
}

-- a value that is made of its last field
abbrev pub through : {A T : Type 0} → (T → A) → (A → T) → Spelling A → Spelling T
through get make s = record {
  Legal = λ value. s.Legal (get value) × (value ≡ make (get value));
  write = λ value. s.write (get value);
  read = λ bytes. s.read bytes >>= λ found. Ok (make found.0, found.1);
}

-- an integer of so many bits, as its bits
abbrev pub signed : Width → Spelling ℤ
signed w = through (cast_unsigned w) (cast_signed w) (number w)

-- this value, of which nothing is left to be spelled
abbrev pub no_bytes : {T : Type 0} → T → Spelling T
no_bytes value = record { Legal = λ other. other ≡ value; write = λ other. []; read = λ bytes. Ok (value, bytes) }

-- no value
abbrev pub none : {T : Type 0} → Spelling T
none = record { Legal = λ value. ⊥; write = λ value. []; read = λ bytes. Err 0 }

-- the one or the other
abbrev pub which : {T : Type 0} → Bool → Spelling T → Spelling T → Spelling T
which true s t = s
which false s t = t

-- two values
abbrev pub pair : {A B : Type 0} → Spelling A → Spelling B → Spelling (A × B)
pair s t = field (λ both. both.0) s (λ first. through (λ both. both.1) (λ second. (first, second)) t)

-- the bytes of truth values
abbrev pub is_flag : ℕ → Bool
is_flag byte = nat_le byte 1

-- the byte of a truth value
abbrev pub flag_of : Bool → ℕ
flag_of false = 0
flag_of true = 1

-- a truth value: 0 or 1
abbrev pub flag : Spelling Bool
flag = field flag_of (such_that is_flag byte) (λ n. which (n == 1) (no_bytes true) (which (n == 0) (no_bytes false) none))

-- a value that is there: which have a spelling, and what it is
module _ {T : Type 0} (s : Spelling T) where
  abbrev pub IsLegalSome : Option T → Type 0
  IsLegalSome None = ⊥
  IsLegalSome (Some value) = s.Legal value

  abbrev pub write_some : Option T → List ℕ
  write_some None = []
  write_some (Some value) = s.write value

  abbrev pub just : Spelling (Option T)
  just = record { Legal = IsLegalSome; write = write_some; read = λ bytes. s.read bytes >>= λ found. Ok (Some found.0, found.1) }

-- how many values there are
abbrev pub count_of : {T : Type 0} → Option T → ℕ
count_of None = 0
count_of (Some value) = 1

-- 0, or 1 and a value
abbrev pub option : {T : Type 0} → Spelling T → Spelling (Option T)
option s = field count_of (such_that is_flag byte) (λ n. which (n == 1) (just s) (which (n == 0) (no_bytes None) none))

-- ---- lists

-- the last of a list, or what is before it
abbrev pub last_of : {T : Type 0} → Option T → List T → Option T
last_of before [] = before
last_of before (value ∷ values) = last_of (Some value) values

-- How a member is spelled may depend on the one before it.
module _ {T : Type 0} (member : Option T → Spelling T) where
  -- each member has a spelling
  abbrev pub AreLegal : Option T → List T → Type 0
  AreLegal before [] = Unit {0}
  AreLegal before (value ∷ values) = (member before).Legal value × AreLegal (Some value) values

  -- the members one behind the other
  abbrev pub members : Option T → List T → List ℕ
  members before [] = []
  members before (value ∷ values) = (member before).write value ++ members (Some value) values

  -- so many members
  unfoldable pub members_at : Option T → ℕ → List ℕ → Read (List T)
  members_at before zero bytes = Ok ([], bytes)
  members_at before (suc count) bytes =
      (member before).read bytes >>= λ first.
      members_at (Some first.0) count first.1 >>= λ others.
      Ok (first.0 ∷ others.0, others.1)

  -- what reading finds: the count, and so many members
  unfoldable pub list_at : List ℕ → Read (List T)
  list_at bytes = number_at w32 bytes >>= λ count. members_at None count.0 count.1

  -- the count, and the members, fewer than 2^32
  abbrev pub list_by : Spelling (List T)
  list_by = record {
    Legal = λ values. (length values < 2 ^ 32) × AreLegal None values;
    write = λ values. to_be_bytes w32 (length values) ++ members None values;
    read = list_at;
  }

-- a list whose members are spelled each by itself
abbrev pub list : {T : Type 0} → Spelling T → Spelling (List T)
list s = list_by (λ before. s)

-- The name of a value is behind that of the value before it, by their bytes.
abbrev pub is_behind : {T : Type 0} → (T → List ℕ) → Option T → T → Bool
is_behind name None value = true
is_behind name (Some before) value = is_lt (slice_cmp nat_cmp (name before) (name value))

-- values whose names rise: of maps, the names and what is under each
abbrev pub rising : {T : Type 0} → (T → List ℕ) → Spelling T → Spelling (List T)
rising name s = list_by (λ before. such_that (is_behind name before) s)

-- the names of these values rise, behind the value before them
abbrev pub Rise : {T : Type 0} → (T → List ℕ) → Option T → List T → Type 0
Rise name before [] = Unit {0}
Rise name before (value ∷ values) = (is_behind name before value ≡ true) × Rise name (Some value) values

-- ---- texts

-- a byte of a text
abbrev pub text_byte : Spelling ℕ
text_byte = such_that is_text_byte byte

-- so many bytes of a text
abbrev pub letters_at : ℕ → List ℕ → Read (List ℕ)
letters_at count bytes = members_at (λ before. text_byte) None count bytes

-- the length, and so many bytes of a text
abbrev pub text : Spelling (List ℕ)
text = record {
  Legal = λ bytes. (length bytes < 2 ^ 32) × IsText bytes;
  write = λ bytes. to_be_bytes w32 (length bytes) ++ bytes;
  read = list_at (λ before. text_byte);
}

-- texts
abbrev pub texts : Spelling (List (List ℕ))
texts = list text

-- Operators (expr(n), "Operators"): their signs, and their levels. That `eq` and `ne` end where no letter follows is this
-- project's own rule.
use Rattle.std.specs.Prelude.{ℕ, Bool, false, ◌||◌, ◌&&◌, ◌==◌, nat_le, List, [], ◌∷◌, Option, Some, None, if◌then◌else◌}
use Rattle.tks_expr.specs.Tree.{Expr, Two, Both, Either}
use Rattle.tks_expr.specs.declared.operator.Unary.{Unary}
use Rattle.tks_expr.specs.declared.operator.Unary.TheVariants.{Minus, Plus, Complement, Not}
use Rattle.tks_expr.specs.declared.operator.Binary.{Binary}
use Rattle.tks_expr.specs.declared.operator.Binary.TheVariants.{Multiply, Divide, Remainder, Add, Subtract, ShiftLeft, ShiftRight, Less, Greater, AtMost, AtLeast, Equal, NotEqual, SameText, OtherText, BitAnd, BitXor, BitOr}
use Rattle.tks_expr.specs.declared.sign.Join.{Join}
use Rattle.tks_expr.specs.declared.sign.Join.TheVariants.{Of, And, Or}

-- the level of an operator, from 1, which binds tightest
abbrev pub binary_level : Binary → ℕ
binary_level Multiply = 1
binary_level Divide = 1
binary_level Remainder = 1
binary_level Add = 2
binary_level Subtract = 2
binary_level ShiftLeft = 3
binary_level ShiftRight = 3
binary_level Less = 4
binary_level Greater = 4
binary_level AtMost = 4
binary_level AtLeast = 4
binary_level Equal = 5
binary_level NotEqual = 5
binary_level SameText = 6
binary_level OtherText = 6
binary_level BitAnd = 7
binary_level BitXor = 8
binary_level BitOr = 9

abbrev pub level_of : Join → ℕ
level_of (Of op) = binary_level op
level_of And = 10
level_of Or = 11

-- the level that binds loosest
abbrev pub loosest : ℕ
loosest = 11

-- two operands and what joins them
abbrev pub combined : Join → Expr → Expr → Expr
combined (Of op) a b = Two op a b
combined And a b = Both a b
combined Or a b = Either a b

abbrev pub is_letter : ℕ → Bool
is_letter c = (nat_le 65 c && nat_le c 90) || (nat_le 97 c && nat_le c 122)

abbrev pub begins_letter : List ℕ → Bool
begins_letter [] = false
begins_letter (c ∷ u) = is_letter c

-- `<<`, `>>`, `<=`, `>=`, `==`, `!=`, `&&`, `||`
abbrev pub long_sign : ℕ → ℕ → Option Join
long_sign c d =
    if (c == 60) && (d == 60) then Some (Of ShiftLeft)
    else (if (c == 62) && (d == 62) then Some (Of ShiftRight)
    else (if (c == 60) && (d == 61) then Some (Of AtMost)
    else (if (c == 62) && (d == 61) then Some (Of AtLeast)
    else (if (c == 61) && (d == 61) then Some (Of Equal)
    else (if (c == 33) && (d == 61) then Some (Of NotEqual)
    else (if (c == 38) && (d == 38) then Some And
    else (if (c == 124) && (d == 124) then Some Or
    else None)))))))

-- `eq` and `ne`, where no letter follows
abbrev pub word_sign : ℕ → ℕ → List ℕ → Option Join
word_sign c d u =
    if begins_letter u then None
    else (if (c == 101) && (d == 113) then Some (Of SameText)
    else (if (c == 110) && (d == 101) then Some (Of OtherText)
    else None))

-- `*`, `/`, `%`, `+`, `-`, `<`, `>`, `&`, `^`, `|`
abbrev pub short_sign : ℕ → Option Join
short_sign c =
    if c == 42 then Some (Of Multiply)
    else (if c == 47 then Some (Of Divide)
    else (if c == 37 then Some (Of Remainder)
    else (if c == 43 then Some (Of Add)
    else (if c == 45 then Some (Of Subtract)
    else (if c == 60 then Some (Of Less)
    else (if c == 62 then Some (Of Greater)
    else (if c == 38 then Some (Of BitAnd)
    else (if c == 94 then Some (Of BitXor)
    else (if c == 124 then Some (Of BitOr)
    else None)))))))))

abbrev pub long_join : List ℕ → Option Join
long_join (c ∷ d ∷ u) = elim (long_sign c d) [ Some op ↦ Some op | None ↦ word_sign c d u ]
long_join _ = None

abbrev pub short_join : List ℕ → Option Join
short_join [] = None
short_join (c ∷ u) = short_sign c

-- the operator at the front of a text, the longest one, and how many bytes it takes behind its first
unfoldable pub join_at : List ℕ → Option (Join × ℕ)
join_at t = elim (long_join t) [
  | Some op ↦ Some (op, 1)
  | None ↦ elim (short_join t) [ Some op ↦ Some (op, 0) | None ↦ None ]
]

-- `-`, `+`, `~`, `!`
abbrev pub unary_of : ℕ → Option Unary
unary_of c =
    if c == 45 then Some Minus
    else (if c == 43 then Some Plus
    else (if c == 126 then Some Complement
    else (if c == 33 then Some Not
    else None)))

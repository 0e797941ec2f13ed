-- How the text of a query is cut into pieces. All characters beyond ASCII are word characters, so bytes decide.
use Rattle.std.specs.Prelude.{ℕ, suc, zero, ◌-◌, Bool, true, false, not, ◌&&◌, ◌||◌, ◌==◌, nat_le, nat_lt, List, [], ◌∷◌, ◌++◌, length, take, drop, Option, Some, None, if◌then◌else◌}
use Rattle.std.specs.List.{prefix_len}
use Rattle.query_tree.specs.declared.query.Test.{Test}
use Rattle.query_tree.specs.declared.query.Test.TheVariants.{Equal, Less, LessEqual, GreaterEqual, Greater, Glob, Pattern}
use Rattle.query_tree.specs.declared.piece.Place.{Place}
use Rattle.query_tree.specs.declared.piece.Place.TheVariants.{Outside, BehindWord, Opening, Inside}
use Rattle.query_tree.specs.declared.piece.Shape.{Shape}
use Rattle.query_tree.specs.declared.piece.Shape.TheVariants.{Blank, Word, Operator, Lone, Quoted, Broken, Mark}
use Rattle.query_tree.specs.declared.piece.Cut.{Cut}

-- space and tab
abbrev pub is_blank : ℕ → Bool
is_blank c = c == 32 || c == 9

-- one of ( ) { } , | ! ' "
abbrev pub is_special : ℕ → Bool
is_special c = c == 40 || c == 41 || c == 123 || c == 125 || c == 44 || c == 124 || c == 33 || c == 39 || c == 34

-- all from U+0021 on but U+007F and the special ones
unfoldable pub is_word : ℕ → Bool
is_word c = nat_le 33 c && not (c == 127) && not (is_special c)

abbrev pub is_quote : ℕ → Bool
is_quote c = c == 39 || c == 34

-- U+0000 to U+001F and U+007F
unfoldable pub is_control : ℕ → Bool
is_control c = nat_lt c 32 || c == 127

-- a piece: what it is, and its bytes
pub record Piece : Type 0 where
  pub shape : Shape
  pub bytes : List ℕ

abbrev pub one_more : Option ℕ → Option ℕ
one_more None = None
one_more (Some n) = Some (suc n)

-- The number of bytes behind an opening quote up to the closing one, with it. There is none where the text ends or a
-- control character comes first. A character behind a backslash closes nothing.
abbrev pub closing : ℕ → Bool → List ℕ → Option ℕ
closing quote escaped [] = None
closing quote escaped (c ∷ cs) =
    if is_control c then None
    else if not escaped && (c == quote) then Some 1
    else one_more (closing quote (not escaped && (c == 92)) cs)

-- The bytes behind an opening quote as they are meant: a backslash before the quote or before a backslash stands for
-- that character, any other for itself.
abbrev pub unquoted : ℕ → Bool → List ℕ → List ℕ
unquoted quote true [] = 92 ∷ []
unquoted quote false [] = []
unquoted quote true (c ∷ cs) = if c == quote || c == 92 then c ∷ unquoted quote false cs else 92 ∷ c ∷ unquoted quote false cs
unquoted quote false (c ∷ cs) = if c == 92 then unquoted quote true cs else c ∷ unquoted quote false cs

-- what a quoted value means
abbrev pub quoted_value : List ℕ → List ℕ
quoted_value [] = []
quoted_value (quote ∷ rest) = unquoted quote false (take (length rest - 1) rest)

abbrev pub of_one : Shape → Cut
of_one shape = record { shape = shape; size = 1 }

abbrev pub of_two : Shape → Cut
of_two shape = record { shape = shape; size = 2 }

-- behind a `<`
abbrev pub after_less : List ℕ → Cut
after_less [] = of_one Lone
after_less (c ∷ cs) = if c == 60 then of_two (Operator Less) else if c == 61 then of_two (Operator LessEqual) else of_one Lone

-- behind a `>`
abbrev pub after_greater : List ℕ → Cut
after_greater [] = of_one Lone
after_greater (c ∷ cs) = if c == 61 then of_two (Operator GreaterEqual) else if c == 62 then of_two (Operator Greater) else of_one Lone

-- a run of blanks, a run of word characters, or another single character
unfoldable pub plain_cut : ℕ → List ℕ → Cut
plain_cut c cs =
    if is_blank c then record { shape = Blank; size = suc (prefix_len is_blank cs) }
    else if is_word c then record { shape = Word; size = suc (prefix_len is_word cs) }
    else of_one (Mark c)

abbrev pub quoted_cut : List ℕ → Option ℕ → Cut
quoted_cut cs None = record { shape = Broken; size = suc (length cs) }
quoted_cut cs (Some n) = record { shape = Quoted; size = suc n }

-- the same in a term's parentheses, where a quote begins a quoted value
unfoldable pub inner_cut : ℕ → List ℕ → Cut
inner_cut c cs = if is_quote c then quoted_cut cs (closing c false cs) else plain_cut c cs

-- the same at the first character there that isn't blank, where the longest operator or test is a piece
unfoldable pub opening_cut : ℕ → List ℕ → Cut
opening_cut c cs =
    if c == 61 then of_one (Operator Equal)
    else if c == 37 then of_one (Operator Glob)
    else if c == 126 then of_one (Operator Pattern)
    else if c == 60 then after_less cs
    else if c == 62 then after_greater cs
    else inner_cut c cs

-- the first piece of a text
abbrev pub first_cut : Place → ℕ → List ℕ → Cut
first_cut Outside c cs = plain_cut c cs
first_cut BehindWord c cs = plain_cut c cs
first_cut Opening c cs = opening_cut c cs
first_cut Inside c cs = inner_cut c cs

-- behind a piece outside a term's parentheses: they begin with a `(` behind a run of word characters
abbrev pub outer_place : Place → Shape → Place
outer_place place Blank = place
outer_place place Word = BehindWord
outer_place BehindWord (Mark c) = if c == 40 then Opening else Outside
outer_place place shape = Outside

-- behind a piece inside: they end with the next `)`
abbrev pub inner_place : Place → Shape → Place
inner_place place Blank = place
inner_place place (Mark c) = if c == 41 then Outside else Inside
inner_place place shape = Inside

-- where the text behind a piece stands
abbrev pub next_place : Place → Shape → Place
next_place Outside shape = outer_place Outside shape
next_place BehindWord shape = outer_place BehindWord shape
next_place Opening shape = inner_place Opening shape
next_place Inside shape = inner_place Inside shape

-- the pieces of a text that has at most as many bytes as the first argument
abbrev pub cuts : ℕ → Place → List ℕ → List Piece
cuts zero place text = []
cuts (suc n) place [] = []
cuts (suc n) place (c ∷ cs) =
    let cut = first_cut place c cs in
    record { shape = cut.shape; bytes = take cut.size (c ∷ cs) } ∷ cuts n (next_place place cut.shape) (drop cut.size (c ∷ cs))

-- the pieces of the text of a query
unfoldable pub pieces : List ℕ → List Piece
pieces text = cuts (length text) Outside text

-- what a piece is in the grammar: a quoted value is what it means, whichever quotes it has
pub data Token : Type 0 where
  gap : Token
  word : List ℕ → Token
  operator : Test → Token
  lone : Token
  quoted : List ℕ → Token
  broken : Token
  mark : ℕ → Token

abbrev pub token : Shape → List ℕ → Token
token Blank bytes = gap
token Word bytes = word bytes
token (Operator how) bytes = operator how
token Lone bytes = lone
token Quoted bytes = quoted (quoted_value bytes)
token Broken bytes = broken
token (Mark c) bytes = mark c

abbrev pub behind : Token → List Token → List Token
behind gap ts = ts
behind t ts = t ∷ ts

-- what the pieces that aren't blank are
abbrev pub tokens : List Piece → List Token
tokens [] = []
tokens (p ∷ ps) = behind (token p.shape p.bytes) (tokens ps)

-- the bytes of pieces
abbrev pub joined : List Piece → List ℕ
joined [] = []
joined (p ∷ ps) = p.bytes ++ joined ps

-- a fact for quoted values alone
abbrev pub IfQuoted : Shape → Type 0 → Type 0
IfQuoted Quoted P = P
IfQuoted shape P = Unit {0}

-- the first piece of a text that isn't empty
abbrev pub cut_of : Place → List ℕ → Cut
cut_of place [] = of_one Lone
cut_of place (c ∷ cs) = first_cut place c cs

-- the pieces of a text that begins at such a place
abbrev pub pieces_from : Place → List ℕ → List Piece
pieces_from place text = cuts (length text) place text

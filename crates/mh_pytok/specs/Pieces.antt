-- What stands at the front of the bytes of a source, layout aside: always the longest that may stand
-- there. As in the Python 3 reference (2, lexical analysis), for the subset's tokens, with the rules of
-- this project for what is refused.
use Rattle.std.specs.Prelude.{ℕ, Bool, false, not, List, ◌^◌, ◌==◌, ◌&&◌, ◌||◌, nat_lt, take, length, slice_index, Option, Some, None, if◌then◌else◌}
use Rattle.std.specs.List.{prefix_len}
use Rattle.mh_text.specs.Characters.{is_digit, is_name_start, is_name_part}
use Rattle.mh_text.specs.Rows.{Entry, found}
use Rattle.mh_text.specs.declared.code.Code.TheVariants.{L1BadByte, L4OpenString, L5BadNumber}
use Rattle.mh_pytok.specs.Words.{keywords, longest_sign}
use Rattle.mh_pytok.specs.Numbers.{number_of}
use Rattle.mh_pytok.specs.Strings.{is_quote, string_length}
use Rattle.mh_pytok.specs.declared.token.Tok.TheVariants.{Name, Number, Str, Keyword, Sign}
use Rattle.mh_pytok.specs.declared.shape.Piece.{Piece}
use Rattle.mh_pytok.specs.declared.shape.Piece.TheVariants.{Nothing, LineEnd, Gap, Word, Bad}

-- LF, or CR LF, is next
abbrev pub is_line_end : List ℕ → Bool
is_line_end bytes = slice_index bytes 0 == 10 || (slice_index bytes 0 == 13 && slice_index bytes 1 == 10)

-- a space, a tab, or the CR of CR LF
abbrev pub is_blank : List ℕ → Bool
is_blank bytes = slice_index bytes 0 == 32 || slice_index bytes 0 == 9 || (slice_index bytes 0 == 13 && slice_index bytes 1 == 10)

-- a comment goes up to LF
abbrev pub is_comment_part : ℕ → Bool
is_comment_part b = not (b == 10)

-- what a number may be made of, and what may not stand directly behind one
abbrev pub is_number_part : ℕ → Bool
is_number_part b = is_name_part b || b == 46

-- a backslash: with the end of its line it gives no token
unfoldable pub joined : List ℕ → Piece
joined bytes =
    if slice_index bytes 1 == 10 then Gap 2
    else (if slice_index bytes 1 == 13 && slice_index bytes 2 == 10 then Gap 3 else Bad L1BadByte)

abbrev pub closed_string : Option ℕ → Piece
closed_string None = Bad L4OpenString
closed_string (Some n) = Word Str n

-- a string, from its first quote to its last
unfoldable pub string : List ℕ → Piece
string bytes = closed_string (string_length bytes)

-- a number of at most 2 ^ 127 - 1
abbrev pub is_allowed : Option ℕ → Bool
is_allowed None = false
is_allowed (Some n) = nat_lt n (2 ^ 127)

-- all number parts from here on have to be a number
unfoldable pub number : List ℕ → Piece
number bytes =
    let n = prefix_len is_number_part bytes in
    if is_allowed (number_of (take n bytes)) then Word Number n else Bad L5BadNumber

abbrev pub named : Option Entry → ℕ → Piece
named None n = Word Name n
named (Some row) n = Word (Keyword row.tag) n

-- all name parts from here on are a name or a keyword
unfoldable pub name : List ℕ → Piece
name bytes = let n = prefix_len is_name_part bytes in named (found keywords (take n bytes)) n

abbrev pub signed : Option Entry → Piece
signed None = Bad L1BadByte
signed (Some row) = Word (Sign row.tag) (length row.spelling)

unfoldable pub sign : List ℕ → Piece
sign bytes = signed (longest_sign bytes)

-- what stands next
unfoldable pub piece : List ℕ → Piece
piece bytes =
    if length bytes == 0 then Nothing
    else (if slice_index bytes 0 == 10 then LineEnd
    else (if is_blank bytes then Gap 1
    else (if slice_index bytes 0 == 35 then Gap (prefix_len is_comment_part bytes)
    else (if slice_index bytes 0 == 92 then joined bytes
    else (if is_quote (slice_index bytes 0) then string bytes
    else (if is_digit (slice_index bytes 0) then number bytes
    else (if is_name_start (slice_index bytes 0) then name bytes
    else sign bytes)))))))

-- Strings of a source, in one or three of either quote, and the bytes that they stand for, as in the
-- Python 3 reference (2.4.1, string and bytes literals). The escapes are the ten below alone: any other
-- backslash stands for itself (this project's own rule).
use Rattle.std.specs.Prelude.{ℕ, Bool, true, false, List, [], ◌∷◌, ◌++◌, ◌+◌, ◌-◌, ◌==◌, ◌&&◌, ◌||◌, take, drop, length, slice_index, Option, Some, None, if◌then◌else◌, ◌≡◌}

abbrev pub is_quote : ℕ → Bool
is_quote b = b == 39 || b == 34

-- Three of the same quote begin the text.
abbrev pub is_triple : List ℕ → Bool
is_triple text = slice_index text 1 == slice_index text 0 && slice_index text 2 == slice_index text 0

-- Where a string ends, of which n bytes stand before, as the number of all its bytes: behind the first
-- `quotes` quotes in a row, of which `left` are wanted still, with no backslash in front. None where it
-- isn't closed by the end, and in a string with one quote none past the end of the line.
unfoldable pub string_end : ℕ → ℕ → ℕ → Bool → ℕ → List ℕ → Option ℕ
string_end quote quotes left escaped n [] = None
string_end quote quotes left escaped n (b ∷ bs) =
    if b == 10 && quotes == 1 then None
    else (if escaped then string_end quote quotes quotes false (n + 1) bs
    else (if b == quote then (if left == 1 then Some (n + 1) else string_end quote quotes (left - 1) false (n + 1) bs)
    else string_end quote quotes quotes (b == 92) (n + 1) bs))

-- how many bytes a string at the front of the bytes has, which begin with a quote
unfoldable pub string_length : List ℕ → Option ℕ
string_length bytes =
    if is_triple bytes then string_end (slice_index bytes 0) 3 3 false 3 (drop 3 bytes)
    else string_end (slice_index bytes 0) 1 1 false 1 (drop 1 bytes)

-- the text is that of a string, from quote to quote
abbrev pub IsQuoted : List ℕ → Type 0
IsQuoted text = (is_quote (slice_index text 0) ≡ true) × (string_length text ≡ Some (length text))

-- what a backslash with this byte stands for
unfoldable pub escape_of : ℕ → Option ℕ
escape_of c =
    if c == 110 then Some 10 else (if c == 116 then Some 9 else (if c == 114 then Some 13
    else (if c == 97 then Some 7 else (if c == 98 then Some 8 else (if c == 102 then Some 12 else (if c == 118 then Some 11
    else (if c == 92 || c == 39 || c == 34 then Some c else None)))))))

-- the bytes that a backslash and the byte behind it stand for
abbrev pub escaped : Option ℕ → ℕ → List ℕ
escaped None b = 92 ∷ b ∷ []
escaped (Some c) b = c ∷ []

-- The bytes that the text between the quotes stands for; pending says that a backslash stands before.
unfoldable pub unescaped : Bool → List ℕ → List ℕ
unescaped pending [] = if pending then 92 ∷ [] else []
unescaped pending (b ∷ bs) =
    if pending then escaped (escape_of b) b ++ unescaped false bs
    else (if b == 92 then unescaped true bs else b ∷ unescaped false bs)

-- what stands between the quotes
unfoldable pub quoted : List ℕ → List ℕ
quoted text = if is_triple text then take (length text - 6) (drop 3 text) else take (length text - 2) (drop 1 text)

-- the bytes that a string's text stands for
unfoldable pub string_value : List ℕ → List ℕ
string_value text = unescaped false (quoted text)

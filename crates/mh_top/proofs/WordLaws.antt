-- Four words are those of a command exactly where the test says so.
use Rattle.std.proofs.Common.{ℕ, List, [], ◌∷◌, ◌≡◌, ◌≢◌, ◌&&◌, Bool, true, false, not, eqb, length, get_or, codes, sym, ap, subst, ◌∙◌, arith}
use Rattle.std.proofs.lemmas.Bool.{and_parts, not-true, true≢false, false_from_ne_true, eq-eqb, ne_eqb}
use Rattle.std.proofs.lemmas.Slice.Eq.{bytes_eq-Decides}
use Rattle.std.proofs.lemmas.Str.{IsUtf8-from_is_utf8, is_utf8-from_IsUtf8}
use Rattle.std.specs.Str.{bytes_eq, is_utf8}
use Rattle.mh_top.specs.CommandOf.{are_convert, are_sim, is_file_name}
use Rattle.mh_top.specs.Words.{Convert, Sim, GivesNone, IsConvert, IsFileName, IsSim}

and_true : (x y : Bool) → x ≡ true → y ≡ true → (x && y) ≡ true
and_true x y p q = ap (λ b. b && y) p ∙ q

file_name : (word : List ℕ) → is_file_name word ≡ true → IsFileName word
file_name [] h = absurd (true≢false (sym h))
file_name (first ∷ rest) h =
    let parts = and_parts (not (eqb first 45)) (is_utf8 (first ∷ rest)) h in
    (λ same. true≢false (sym (eq-eqb first 45 same) ∙ not-true (eqb first 45) parts.0), IsUtf8-from_is_utf8 (first ∷ rest) parts.1)

file_name_back : (word : List ℕ) → IsFileName word → is_file_name word ≡ true
file_name_back [] h = absurd h
file_name_back (first ∷ rest) h =
    and_true (not (eqb first 45)) (is_utf8 (first ∷ rest)) (ap not (ne_eqb first 45 h.0)) (is_utf8-from_IsUtf8 (first ∷ rest) h.1)

-- words that pass the test
pub convert_given : (words : List (List ℕ)) (verb file option out : List ℕ) → words ≡ verb ∷ file ∷ option ∷ out ∷ [] → are_convert verb file option out ≡ true → IsConvert words file out
convert_given words verb file option out shape h =
    let differ = and_parts (bytes_eq verb (codes "convert") && bytes_eq option (codes "--verilog") && is_file_name file && is_file_name out) (not (bytes_eq file out)) h in
    let text = and_parts (bytes_eq verb (codes "convert") && bytes_eq option (codes "--verilog") && is_file_name file) (is_file_name out) differ.0 in
    let source = and_parts (bytes_eq verb (codes "convert") && bytes_eq option (codes "--verilog")) (is_file_name file) text.0 in
    let spelled = and_parts (bytes_eq verb (codes "convert")) (bytes_eq option (codes "--verilog")) source.0 in
    record {
      spelled =
          shape
          ∙ ap (λ (word : List ℕ). word ∷ file ∷ option ∷ out ∷ []) ((bytes_eq-Decides verb (codes "convert")).0 spelled.0)
          ∙ ap (λ (word : List ℕ). codes "convert" ∷ file ∷ word ∷ out ∷ []) ((bytes_eq-Decides option (codes "--verilog")).0 spelled.1);
      source = file_name file source.1;
      text = file_name out text.1;
      differ = λ same. true≢false (sym ((bytes_eq-Decides file out).1 same) ∙ not-true (bytes_eq file out) differ.1);
    }

-- the words of the command pass the test
given_passes : (verb file option out file' out' : List ℕ) → IsConvert (verb ∷ file ∷ option ∷ out ∷ []) file' out' → are_convert verb file option out ≡ true
given_passes verb file option out file' out' given =
    let spelled = given.spelled in
    let first : verb ≡ codes "convert" = cc in
    let second : file ≡ file' = cc in
    let third : option ≡ codes "--verilog" = cc in
    let fourth : out ≡ out' = cc in
    let verbs = (bytes_eq-Decides verb (codes "convert")).1 first in
    let options = (bytes_eq-Decides option (codes "--verilog")).1 third in
    let files = file_name_back file (subst IsFileName (sym second) given.source) in
    let outs = file_name_back out (subst IsFileName (sym fourth) given.text) in
    let differ = ap not (false_from_ne_true (bytes_eq file out) (λ same. given.differ (sym second ∙ (bytes_eq-Decides file out).0 same ∙ fourth))) in
    and_true (bytes_eq verb (codes "convert") && bytes_eq option (codes "--verilog") && is_file_name file && is_file_name out) (not (bytes_eq file out))
    (and_true (bytes_eq verb (codes "convert") && bytes_eq option (codes "--verilog") && is_file_name file) (is_file_name out)
    (and_true (bytes_eq verb (codes "convert") && bytes_eq option (codes "--verilog")) (is_file_name file)
    (and_true (bytes_eq verb (codes "convert")) (bytes_eq option (codes "--verilog")) verbs options) files) outs) differ

-- words that don't pass the test
pub nothing_given : (words : List (List ℕ)) (verb file option out : List ℕ) → words ≡ verb ∷ file ∷ option ∷ out ∷ [] → are_convert verb file option out ≡ false → GivesNone words
nothing_given words verb file option out shape h (Convert file' out') given =
    true≢false (sym (given_passes verb file option out file' out' (subst (λ (ws : List (List ℕ)). IsConvert ws file' out') shape given)) ∙ h)
nothing_given words verb file option out shape h (Sim file') given =
    let two : codes "sim" ∷ file' ∷ [] ≡ verb ∷ file ∷ option ∷ out ∷ [] = sym given.spelled ∙ shape in
    cc

-- ---- two words

pub sim_given : (words : List (List ℕ)) (verb file : List ℕ) → words ≡ verb ∷ file ∷ [] → are_sim verb file ≡ true → IsSim words file
sim_given words verb file shape h =
    let both = and_parts (bytes_eq verb (codes "sim")) (is_file_name file) h in
    record { spelled = shape ∙ ap (λ (word : List ℕ). word ∷ file ∷ []) ((bytes_eq-Decides verb (codes "sim")).0 both.0); source = file_name file both.1 }

-- the words of the command pass the test
sim_passes : (verb file file' : List ℕ) → IsSim (verb ∷ file ∷ []) file' → are_sim verb file ≡ true
sim_passes verb file file' given =
    let spelled = given.spelled in
    let first : verb ≡ codes "sim" = cc in
    let second : file ≡ file' = cc in
    and_true (bytes_eq verb (codes "sim")) (is_file_name file) ((bytes_eq-Decides verb (codes "sim")).1 first) (file_name_back file (subst IsFileName (sym second) given.source))

pub nothing_in_two : (words : List (List ℕ)) (verb file : List ℕ) → words ≡ verb ∷ file ∷ [] → are_sim verb file ≡ false → GivesNone words
nothing_in_two words verb file shape h (Convert file' out') given =
    let four : codes "convert" ∷ file' ∷ codes "--verilog" ∷ out' ∷ [] ≡ verb ∷ file ∷ [] = sym given.spelled ∙ shape in
    cc
nothing_in_two words verb file shape h (Sim file') given =
    true≢false (sym (sim_passes verb file file' (subst (λ (ws : List (List ℕ)). IsSim ws file') shape given)) ∙ h)

pub two_words : (words : List (List ℕ)) (a b : List ℕ) → length words ≡ 2 → a ≡ get_or words 0 a → b ≡ get_or words 1 b → words ≡ a ∷ b ∷ []
two_words [] a b n p q = absurd (omega arith)
two_words (w ∷ []) a b n p q = absurd (omega arith)
two_words (w ∷ x ∷ []) a b n p q = cc
two_words (w ∷ x ∷ y ∷ ws) a b n p q = absurd (omega arith)

-- another number of words
pub other_number : (words : List (List ℕ)) → length words ≢ 2 → length words ≢ 4 → GivesNone words
other_number words two four (Convert file out) given = four (ap length given.spelled)
other_number words two four (Sim file) given = two (ap length given.spelled)

-- four words, by their places
pub four_words : (words : List (List ℕ)) (a b c d : List ℕ) → length words ≡ 4 → a ≡ get_or words 0 a → b ≡ get_or words 1 b → c ≡ get_or words 2 c → d ≡ get_or words 3 d → words ≡ a ∷ b ∷ c ∷ d ∷ []
four_words [] a b c d n p q r s = absurd (omega arith)
four_words (w ∷ []) a b c d n p q r s = absurd (omega arith)
four_words (w ∷ x ∷ []) a b c d n p q r s = absurd (omega arith)
four_words (w ∷ x ∷ y ∷ []) a b c d n p q r s = absurd (omega arith)
four_words (w ∷ x ∷ y ∷ z ∷ []) a b c d n p q r s = cc
four_words (w ∷ x ∷ y ∷ z ∷ v ∷ vs) a b c d n p q r s = absurd (omega arith)

-- words give one file at most
pub same_file : (words : List (List ℕ)) (file out file' out' : List ℕ) → IsConvert words file out → IsConvert words file' out' → file ≡ file'
same_file words file out file' out' one other =
    let same : codes "convert" ∷ file ∷ codes "--verilog" ∷ out ∷ [] ≡ codes "convert" ∷ file' ∷ codes "--verilog" ∷ out' ∷ [] = sym one.spelled ∙ other.spelled in
    cc

-- and one name to store under
pub same_out : (words : List (List ℕ)) (file out file' out' : List ℕ) → IsConvert words file out → IsConvert words file' out' → out ≡ out'
same_out words file out file' out' one other =
    let same : codes "convert" ∷ file ∷ codes "--verilog" ∷ out ∷ [] ≡ codes "convert" ∷ file' ∷ codes "--verilog" ∷ out' ∷ [] = sym one.spelled ∙ other.spelled in
    cc

-- words that give one command give it alone
pub not_sim : (words : List (List ℕ)) (file out file' : List ℕ) → IsConvert words file out → IsSim words file' → ⊥
not_sim words file out file' one other =
    let same : codes "convert" ∷ file ∷ codes "--verilog" ∷ out ∷ [] ≡ codes "sim" ∷ file' ∷ [] = sym one.spelled ∙ other.spelled in
    cc

pub same_source : (words : List (List ℕ)) (file file' : List ℕ) → IsSim words file → IsSim words file' → file ≡ file'
same_source words file file' one other =
    let same : codes "sim" ∷ file ∷ [] ≡ codes "sim" ∷ file' ∷ [] = sym one.spelled ∙ other.spelled in
    cc

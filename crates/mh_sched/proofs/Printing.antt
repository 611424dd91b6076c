-- Lines that are put together part by part.
use Rattle.std.proofs.Common.{◌≡◌, ℕ, Bool, true, false, List, [], ◌∷◌, ◌++◌, length, take, refl, sym, ap, ◌∙◌}
use Rattle.std.specs.Prelude.{Result, Ok, Err}
use Rattle.std.proofs.lemmas.List.{append_assoc, append-nil, take_at}
use Rattle.mh_design.specs.Deltas.{Piece}
use Rattle.mh_design.specs.Values.{Fault as Meant, with_value}
use Rattle.mh_sched.specs.declared.line.Unsaid.{Unsaid}
use Rattle.mh_sched.specs.declared.line.Unsaid.TheVariants as unsaid
use Rattle.mh_sched.specs.Unsaid.{IsUnsaid, IsWant}
use Rattle.mh_sched.specs.Lines.{Line, piece_bytes, space, line_feed, spaced, spaced_on, put_parts, put_piece, put_line, space_before, Grown}

pub want_unsaid : {A : Type 0} (why : Unsaid) (r : Result A Meant) → IsWant why → IsUnsaid why r
want_unsaid (unsaid.Fault f) r w = absurd w
want_unsaid unsaid.Memory r w = tt

spaced_all : (ps : Line) → spaced_on true ps ≡ spaced ps
spaced_all [] = refl
spaced_all (p ∷ []) = append-nil (piece_bytes p)
spaced_all (p ∷ q ∷ ps) = ap (λ bs. piece_bytes p ++ space ∷ bs) (spaced_all (q ∷ ps))

-- The parts with this one before them.
abbrev pub more : Result Piece Meant → Result Line Meant → Result Line Meant
more a r = with_value a (λ x. with_value r (λ xs. Ok (x ∷ xs)))

on_more : (bs : List ℕ) (first : Bool) (x : Piece) (ls : Line) → ((bs ++ space_before first) ++ piece_bytes x) ++ spaced_on false ls ≡ bs ++ spaced_on first (x ∷ ls)
on_more bs true x ls =
    ap (λ cs. (cs ++ piece_bytes x) ++ spaced_on false ls) (append-nil bs) ∙ append_assoc bs (piece_bytes x) (spaced_on false ls)
on_more bs false x ls =
    append_assoc (bs ++ space ∷ []) (piece_bytes x) (spaced_on false ls) ∙ append_assoc bs (space ∷ []) (piece_bytes x ++ spaced_on false ls)

pub part_more : (bs cs : List ℕ) (first : Bool) (a : Result Piece Meant) (r : Result Line Meant) → put_piece (bs ++ space_before first) a ≡ Ok cs → put_parts cs false r ≡ put_parts bs first (more a r)
part_more bs cs first (Ok x) (Ok ls) e =
    let s : (bs ++ space_before first) ++ piece_bytes x ≡ cs = cc in
    ap (λ us. Ok (us ++ spaced_on false ls)) (sym s) ∙ ap Ok (on_more bs first x ls)
part_more bs cs first (Ok x) (Err f) e = refl
part_more bs cs first (Err f) r e = absurd cc

pub part_fails : (why : Unsaid) (bs cs : List ℕ) (first second : Bool) (a : Result Piece Meant) (r all : Result Line Meant) → put_parts bs first (more a r) ≡ put_parts cs second all → IsUnsaid why a → IsUnsaid why all
part_fails unsaid.Memory bs cs first second a r all e w = tt
part_fails (unsaid.Fault f) bs cs first second (Ok x) r all e w = absurd cc
part_fails (unsaid.Fault f) bs cs first second (Err g) r (Ok ls) e w = absurd cc
part_fails (unsaid.Fault f) bs cs first second (Err g) r (Err h) e w = let i : h ≡ f = cc in ap Err i

pub parts_end : (bs cs : List ℕ) (first second : Bool) (all : Result Line Meant) → put_parts bs first (Ok []) ≡ put_parts cs second all → put_parts cs second all ≡ Ok bs
parts_end bs cs first second all e = sym e ∙ ap Ok (append-nil bs)

pub whole_line : (bs cs : List ℕ) (r : Result Line Meant) → put_parts bs true r ≡ Ok cs → put_line bs r ≡ Ok (cs ++ line_feed ∷ [])
whole_line bs cs (Ok ps) e =
    let s : bs ++ spaced_on true ps ≡ cs = cc in
    ap Ok (ap (λ us. bs ++ (us ++ line_feed ∷ [])) (sym (spaced_all ps)) ∙ sym (append_assoc bs (spaced_on true ps) (line_feed ∷ [])) ∙ ap (λ us. us ++ line_feed ∷ []) s)
whole_line bs cs (Err f) e = absurd cc

-- Bytes that are added stay before those that are added later, and are what is left where those are cut off.
pub grown_none : (bs : List ℕ) → Grown bs bs
grown_none bs = record { more = []; is = sym (append-nil bs) }

pub grown_by : (bs cs more : List ℕ) → cs ≡ bs ++ more → Grown bs cs
grown_by bs cs more e = record { more = more; is = e }

pub grown_on : {bs cs ds : List ℕ} → Grown bs cs → Grown cs ds → Grown bs ds
grown_on {bs} {cs} {ds} a b =
    record { more = a.more ++ b.more; is = b.is ∙ ap (λ us. us ++ b.more) a.is ∙ append_assoc bs a.more b.more }

pub grown_cut : (bs cs : List ℕ) → Grown bs cs → take (length bs) cs ≡ bs
grown_cut bs cs g = ap (take (length bs)) g.is ∙ take_at bs g.more (length bs) refl

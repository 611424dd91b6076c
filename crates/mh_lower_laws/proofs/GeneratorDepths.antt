-- How deep a generator is that was read, and that it fits as well-formedness asks.
use Rattle.std.proofs.Common.{◌≡◌, ℕ, suc, ◌≤◌, true, false, ◌&&◌, List, [], ◌∷◌, map, length, Result, Ok, Err, IfOk, refl, subst}
use Rattle.std.specs.List.{list_all}
use Rattle.std.proofs.lemmas.Bool.{and_parts, and_from}
use Rattle.mh_pytree.specs.declared.statement.FuncDef.{FuncDef, out-FuncDef}
use Rattle.mh_pytree.specs.Depth.{def_depth}
use Rattle.mh_text.specs.declared.code.Code.{Code}
use Rattle.mh_consts.specs.declared.scope.Scope.{Scope}
use Rattle.mh_consts.specs.Expression.{Ex, ex_of}
use Rattle.mh_design.specs.declared.design.Design.{Design}
use Rattle.mh_design.specs.declared.design.GenKind.{GenKind}
use Rattle.mh_design.specs.declared.design.Generator.{Generator}
use Rattle.mh_design.specs.declared.design.Local.{Local}
use Rattle.mh_design.specs.Depth.{block_is_within}
use Rattle.mh_design.specs.Numbering.{body_of}
use Rattle.mh_design.specs.Statements.{block_exits_fit}
use Rattle.mh_design.specs.Tree.{Statement, block}
use Rattle.mh_design.specs.WellFormed.{is_name, kind_fits, local_fits, starts_fit, statements_fit, locals_are_assigned, body_fits, generator_fits}
use Rattle.mh_exprs.specs.declared.locals.Locals.{Locals}
use Rattle.mh_exprs.specs.declared.typed.Work.{Work}
use Rattle.mh_lower.specs.Body.{Lines, lines, line_of}
use Rattle.mh_lower.specs.Bodies.{read_lines}
use Rattle.mh_lower.specs.Generators.{no_locals, locals_in_lines, marked, is_instance, at_def, next, Read, read_as, read_body, lowered, def_of, read_of}
use Rattle.mh_lower.specs.Paths.{starts}
use Rattle.mh_lower.specs.Run.{Broken}
use Rattle.mh_lower_laws.specs.Laws.{Fits}
use Rattle.mh_lower_laws.proofs.BodyDepths.{lines_depth, lines_deep}
use Rattle.mh_lower_laws.proofs.SourceDepths.{body_depth}

-- what was read has at most so many levels
abbrev Deep : ℕ → Result (Read × Design) Broken → Type 0
Deep m r = IfOk r (λ y. block_is_within y.0.body m ≡ true)

body_deep : (s : Scope) (d : Design) (k : GenKind) (b : Lines) (ls : Locals) (m : ℕ) → lines_depth b ≤ m → Deep m (read_body s d k b ls)
body_deep s d k b ls m h = by_run (read_lines s ls (is_instance k) false [] b (starts ls) d) (lines_deep s ls (is_instance k) b false [] m (starts ls) d h refl)
  where
    by_run : (r : Result (List Statement × Work × Design) Broken) → IfOk r (λ y. block_is_within (block y.0) m ≡ true) → Deep m (next r (λ r. Ok (read_as k ls r)))
    by_run (Ok y) q = q
    by_run (Err e) q = tt

lowered_deep : (s : Scope) (d : Design) (marks : List Ex) (n l : ℕ) (b : Lines) (m : ℕ) → lines_depth b ≤ m → Deep m (lowered s d marks n l b)
lowered_deep s d marks n l b m h = by_mark (marked s no_locals d marks n)
  where
    by_mark : (r : Result GenKind Code) → Deep m (next (at_def l r) (λ k. read_body s d k b (locals_in_lines no_locals b)))
    by_mark (Ok k) = body_deep s d k b (locals_in_lines no_locals b) m h
    by_mark (Err code) = tt

deep_to : (m : ℕ) (r : Result (Read × Design) Broken) (y : Read) (e : Design) → Deep m r → r ≡ Ok (y, e) → block_is_within y.body m ≡ true
deep_to m (Ok z) y e h q = let p : z ≡ (y, e) = cc in subst (λ (z : Read × Design). block_is_within z.0.body m ≡ true) p h
deep_to m (Err b) y e h q = absurd (cc)

pub def_deep : (s : Scope) (f : FuncDef) (d : Design) (r : Read) (e : Design) (n : ℕ) → def_depth f ≤ n → def_of s d f ≡ Ok (r, e) → block_is_within r.body (suc n) ≡ true
def_deep s f d r e n h q =
    deep_to (suc n) (def_of s d f) r e (lowered_deep s d (map ex_of (out-FuncDef f).marks) (length (out-FuncDef f).params) (out-FuncDef f).line (lines (map line_of (out-FuncDef f).body)) (suc n) (body_depth f n h)) q

-- names and kinds of locals
locals_fit : (d : Design) (vs : List Local) → list_all (λ v. is_name v.name) vs ≡ true → list_all (λ v. kind_fits d v.kind) vs ≡ true → list_all (local_fits d) vs ≡ true
locals_fit d [] h k = refl
locals_fit d (v ∷ vs) h k =
    let p = and_parts (is_name v.name) (list_all (λ v. is_name v.name) vs) h in
    let q = and_parts (kind_fits d v.kind) (list_all (λ v. kind_fits d v.kind) vs) k in
    and_from (local_fits d v) (list_all (local_fits d) vs) (and_from (is_name v.name) (kind_fits d v.kind) p.0 q.0) (locals_fit d vs p.1 q.1)

-- all that is asked of a generator
pub fits_whole : (d : Design) (g : Generator) → Fits d (read_of g) → is_name g.path ≡ true → list_all (λ v. is_name v.name) g.locals ≡ true → block_is_within (body_of g) 200 ≡ true → generator_fits d g ≡ true
fits_whole d g f p n w =
    and_from (is_name g.path && list_all (local_fits d) g.locals) (starts_fit d g.kind && body_fits d g) (and_from (is_name g.path) (list_all (local_fits d) g.locals) p (locals_fit d g.locals n f.locals))
    (and_from (starts_fit d g.kind) (body_fits d g) f.starts
    (and_from (block_is_within (body_of g) 200 && statements_fit d g) (block_exits_fit false (body_of g) && locals_are_assigned g) (and_from (block_is_within (body_of g) 200) (statements_fit d g) w f.statements)
    (and_from (block_exits_fit false (body_of g)) (locals_are_assigned g) f.exits f.assigned)))

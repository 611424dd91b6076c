-- Each turn of a loop in the reading of expressions that goes on takes a token: the measure of the code's loops.
use Rattle.std.proofs.Common.{◌≡◌, ℕ, ◌<◌, Bool, true, false, nat_lt, List, [], ◌∷◌, length, Option, Some, None, Ok, refl, ap, arith, subst, if◌then◌else◌}
use Rattle.mh_reader.specs.Reader.{◌>>=◌, pure, refuse, first_of, eat}
use Rattle.mh_reader.specs.Locality.{Local}
use Rattle.mh_reader.proofs.Invert.{chain_ok, ok_pair, eat_true}
use Rattle.mh_reader.proofs.Local.{locally, local_many, shorter}
use Rattle.mh_reader.proofs.Advances.{Advances, AdvancesAt, advancing, advances_done, advances_refuse, advances_if_at, advances_after_look, advances_after_take}
use Rattle.mh_pytok.specs.Lexeme.{Lexeme}
use Rattle.mh_pytok.specs.declared.token.Tok.{Tok}
use Rattle.mh_pytok.specs.declared.token.Tok.TheVariants.{End}
use Rattle.mh_pyparse.specs.declared.infix.Infix.{Infix}
use Rattle.mh_pyparse.specs.declared.infix.Infix.TheVariants.{Binary, Attribute, Call, Index}
use Rattle.mh_pyparse.specs.Reading as r
use Rattle.mh_pyparse.specs.Reading.{Read, Deep, Row, Arguments, is, infix_at}
use Rattle.mh_pyparse.proofs.Local.{no_ends, local_expr, local_indexed, local_arguments_turn}

-- ---- rules

-- a turn that says whether it took a token
pub advances_flag : {S : Type 0} (test : Lexeme → Bool) (x : S) → Advances (is End) (eat test >>= (λ b. pure (x, b)))
advances_flag {S} test x = record {
  at = λ ts m y e.
      let a = chain_ok (eat test) (λ b. pure (x, b)) ts m (y, true) e in
      let p = ok_pair _ _ _ _ a.3 in
      let t = eat_true test ts a.1 (subst (λ (b : Bool). eat test ts ≡ Ok (b, a.1)) (ap (λ (p : S × Bool). p.1) p.0) a.2) in
      omega (arith, ap length t.2, ap length p.1);
}

-- where p answers, it took a token
pub record Consumes {A : Type 0} (p : Read A) : Type 0 where
  pub at : (ts m : List Lexeme) (x : A) → p ts ≡ Ok (x, m) → length m < length ts

pub advances_after : {A S : Type 0} (p : Read A) (f : A → Read (S × Bool)) → Consumes p → ((x : A) → Local (is End) (f x)) → Advances (is End) (p >>= f)
advances_after p f takes local = record {
  at = λ ts m y e.
      let a = chain_ok p f ts m (y, true) e in
      omega (arith, takes.at ts a.1 a.0 a.2, shorter (is End) (f a.0) (local a.0) a.1 (y, true) m a.3);
}

pub advances_closing : {A : Type 0} (close : Tok) (found : A) → Advances (is End) (r.closing close found)
unfolding r.closing
advances_closing close found = search (advancing, locally, no_ends) depth 12

-- ---- expressions

module _ (d : ℕ) where
  pub advances_items_turn : (close : Tok) (found : Row) → Advances (is End) (r.items_turn (r.expr d) close found)
  unfolding r.items_turn
  advances_items_turn close found = search (advancing, locally, advances_closing, local_expr) depth 14

  local_argument_by : (x : Deep) (name : Option (List ℕ)) → Local (is End) (r.argument_by (r.expr d) x name)
  local_argument_by x None ts = search locally depth 6
  local_argument_by x (Some name) ts = search (locally, no_ends, local_expr) depth 14

  pub advances_arguments_turn : (found : Arguments) → Advances (is End) (r.arguments_turn (r.expr d) found)
  unfolding r.arguments_turn
  advances_arguments_turn found = search (advancing, locally, advances_closing, local_argument_by, local_expr) depth 14

  local_apply : (left : Deep) (i : Infix) → Local (is End) (r.apply (r.expr d) left i)
  unfolding r.apply
  local_apply left (Binary op) ts = search (locally, local_expr) depth 10
  local_apply left Attribute ts = search (locally, no_ends) depth 10
  local_apply left Call ts = search (locally, local_many, local_arguments_turn, local_expr) depth 12
  local_apply left Index ts = local_indexed (r.expr d) (local_expr d) left ts

  goes_on_advances : (least : ℕ) (left : Deep) (o : Option Infix) (ts : List Lexeme) → infix_at (first_of ts) ≡ o → AdvancesAt (is End) (r.goes_on_by (r.expr d) d least left o) ts
  unfolding r.applied
  goes_on_advances least left None ts e = (advances_done (is End) left).at ts
  goes_on_advances least left (Some i) [] e = absurd (cc)
  goes_on_advances least left (Some i) (t ∷ ts) e = advances_if_at (is End) (r.admits least left.0 i) (if nat_lt d left.1 then refuse else r.applied (r.expr d) left i) (pure (left, false)) (t ∷ ts)
      (λ h. advances_if_at (is End) (nat_lt d left.1) refuse (r.applied (r.expr d) left i) (t ∷ ts)
      (λ k. (advances_refuse (is End)).at (t ∷ ts))
      (λ k. advances_after_take (is End) t (r.apply (r.expr d) left i >>= (λ x. pure (x, true))) ts (λ ts. search (locally, local_apply) depth 8)))
      (λ h. (advances_done (is End) left).at (t ∷ ts))

  pub advances_operate_turn : (least : ℕ) (left : Deep) → Advances (is End) (r.operate_turn (r.expr d) d least left)
  unfolding r.operate_turn
  advances_operate_turn least left = advances_after_look (is End) infix_at (r.goes_on_by (r.expr d) d least left) (λ ts. goes_on_advances least left (infix_at (first_of ts)) ts refl)

  pub advances_tuple_turn : (found : Row) → Advances (is End) (r.tuple_turn (r.expr d) found)
  unfolding r.tuple_turn
  advances_tuple_turn found = search (advancing, locally, advances_flag, local_expr) depth 14

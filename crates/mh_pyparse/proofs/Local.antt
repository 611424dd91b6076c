-- What a reader of expressions answers depends only on what it took and the next token: one line a rule.
use Rattle.std.proofs.Common.{◌≡◌, ℕ, zero, suc, Bool, true, false, List, [], ◌∷◌, Option, Some, None, refl, ap, ◌∙◌, cond}
use Rattle.mh_reader.specs.Reader.{◌>>=◌, ◌>>◌, pure, first_of, look, take}
use Rattle.mh_reader.specs.Locality.{Local, LocalAt, PassesNoEnd, GivesNoEnd}
use Rattle.mh_reader.proofs.Local.{locally, local_many, local_after_take, local_after_look}
use Rattle.mh_pytok.specs.Lexeme.{Lexeme}
use Rattle.mh_pytok.specs.declared.token.Tok.{Tok}
use Rattle.mh_pytok.specs.declared.token.Tok.TheVariants.{Name, Number, Str, Keyword, Sign, Newline, Indent, Dedent, End}
use Rattle.mh_pyparse.specs.declared.infix.Infix.{Infix}
use Rattle.mh_pyparse.specs.declared.infix.Infix.TheVariants.{Binary, Attribute, Call, Index}
use Rattle.mh_pyparse.specs.declared.infix.Prefix.{Prefix}
use Rattle.mh_pyparse.specs.Signs.{same_kind, for_word, in_word, equals, lparen, rparen, lbracket, rbracket, comma, colon}
use Rattle.mh_pyparse.specs.Operators.{infix_of, prefix_of}
use Rattle.mh_pyparse.specs.Reading as r
use Rattle.mh_pyparse.specs.Reading.{Read, Deep, Row, Arguments, is, text_if, leaf_of, leaf_by, infix_at, prefix_at}

-- ---- no end passes a test on kinds

is_end : (t : Lexeme) → is End t ≡ true → t.kind ≡ End
unfolding is
is_end t e = go t.kind e
  where
    go : (k : Tok) → same_kind k End ≡ true → k ≡ End
    go Name e = cc
    go Number e = cc
    go Str e = cc
    go (Keyword n) e = cc
    go (Sign n) e = cc
    go Newline e = cc
    go Indent e = cc
    go Dedent e = cc
    go End e = refl

pub no_end : (k : Tok) → same_kind End k ≡ false → PassesNoEnd (is End) (is k)
unfolding is
no_end k h = record { not_passed = λ t e. at t (is_end t e) }
  where
    at : (t : Lexeme) → t.kind ≡ End → is k t ≡ false
    at t e = ap (λ m. same_kind m k) e ∙ h

pub no_end_rparen : PassesNoEnd (is End) (is rparen)
no_end_rparen = no_end rparen refl

pub no_end_lparen : PassesNoEnd (is End) (is lparen)
no_end_lparen = no_end lparen refl

pub no_end_lbracket : PassesNoEnd (is End) (is lbracket)
no_end_lbracket = no_end lbracket refl

pub no_end_rbracket : PassesNoEnd (is End) (is rbracket)
no_end_rbracket = no_end rbracket refl

pub no_end_comma : PassesNoEnd (is End) (is comma)
no_end_comma = no_end comma refl

pub no_end_colon : PassesNoEnd (is End) (is colon)
no_end_colon = no_end colon refl

pub no_end_equals : PassesNoEnd (is End) (is equals)
no_end_equals = no_end equals refl

pub no_end_for : PassesNoEnd (is End) (is for_word)
no_end_for = no_end for_word refl

pub no_end_in : PassesNoEnd (is End) (is in_word)
no_end_in = no_end in_word refl

pub no_end_name : GivesNoEnd (is End) (text_if Name)
unfolding text_if
no_end_name = record { nothing_given = λ t e. ap (λ (b : Bool). cond b (Some t.text) None) ((no_end Name refl).not_passed t e) }

pub no_end_leaf : GivesNoEnd (is End) leaf_of
unfolding leaf_of
no_end_leaf = record { nothing_given = λ t e. ap (λ k. leaf_by k t.text) (is_end t e) }

pub ruleset no_ends = (no_end_rparen, no_end_lparen, no_end_lbracket, no_end_rbracket, no_end_comma, no_end_colon, no_end_equals, no_end_for, no_end_in, no_end_name, no_end_leaf)

-- ---- the rules

pub local_leaf : Local (is End) r.leaf
unfolding r.leaf
local_leaf ts = search (locally, no_ends) depth 12

module _ {A : Type 0} where
  pub local_closing : (close : Tok) (end : PassesNoEnd (is End) (is close)) (found : A) → Local (is End) (r.closing close found)
  unfolding r.closing
  local_closing close end found ts = search (locally, no_ends) depth 14

module _ (sub : ℕ → Read Deep) (below : (least : ℕ) → Local (is End) (sub least)) where
  pub local_items_turn : (close : Tok) (end : PassesNoEnd (is End) (is close)) (found : Row) → Local (is End) (r.items_turn sub close found)
  unfolding r.items_turn
  local_items_turn close end found ts = search (locally, no_ends, local_closing) depth 14

  pub local_items : (close : Tok) (end : PassesNoEnd (is End) (is close)) (found : Row) → Local (is End) (r.items sub close found)
  unfolding r.items
  local_items close end found = local_many (is End) (r.items_turn sub close) (local_items_turn close end) found

  pub local_bracketed : (a : Deep) → Local (is End) (r.bracketed sub a)
  unfolding r.bracketed
  local_bracketed a ts = search (locally, no_ends, local_items) depth 14

  pub local_round : Local (is End) (r.round sub)
  unfolding r.round
  local_round ts = search (locally, no_ends, local_bracketed) depth 16

  pub local_comprehension : (a : Deep) → Local (is End) (r.comprehension sub a)
  unfolding r.comprehension
  local_comprehension a ts = search (locally, no_ends) depth 16

  pub local_list : (a : Deep) → Local (is End) (r.list sub a)
  unfolding r.list
  local_list a ts = search (locally, no_ends, local_items) depth 16

  pub local_square : Local (is End) (r.square sub)
  unfolding r.square
  local_square ts = search (locally, no_ends, local_comprehension, local_list) depth 16

  pub local_sliced : (left b : Deep) → Local (is End) (r.sliced sub left b)
  unfolding r.sliced
  local_sliced left b ts = search (locally, no_ends) depth 16

  pub local_indexed : (left : Deep) → Local (is End) (r.indexed sub left)
  unfolding r.indexed
  local_indexed left ts = search (locally, no_ends, local_sliced) depth 18

  local_argument_by : (x : Deep) (name : Option (List ℕ)) → Local (is End) (r.argument_by sub x name)
  local_argument_by x None ts = search locally depth 6
  local_argument_by x (Some name) ts = search (locally, no_ends) depth 14

  pub local_arguments_turn : (found : Arguments) → Local (is End) (r.arguments_turn sub found)
  unfolding r.arguments_turn
  local_arguments_turn found ts = search (locally, no_ends, local_argument_by, local_closing) depth 18

  pub local_apply : (left : Deep) (i : Infix) → Local (is End) (r.apply sub left i)
  unfolding r.apply
  local_apply left (Binary op) ts = search locally depth 10
  local_apply left Attribute ts = search (locally, no_ends) depth 10
  local_apply left Call ts = search (locally, local_many, local_arguments_turn) depth 12
  local_apply left Index ts = local_indexed left ts

  pub local_operand : (p : Prefix) → Local (is End) (r.operand sub p)
  unfolding r.operand
  local_operand p ts = search locally depth 10

  -- a token that is an operator is no end
  infix_no_end : (t : Lexeme) (i : Infix) → infix_of t.kind ≡ Some i → is End t ≡ false
  unfolding is
  infix_no_end t i e = go t.kind e
    where
      go : (k : Tok) → infix_of k ≡ Some i → same_kind k End ≡ false
      go Name e = refl
      go Number e = refl
      go Str e = refl
      go (Keyword n) e = refl
      go (Sign n) e = refl
      go Newline e = refl
      go Indent e = refl
      go Dedent e = refl
      go End e = absurd (cc)

  prefix_no_end : (t : Lexeme) (p : Prefix) → prefix_of t.kind ≡ Some p → is End t ≡ false
  unfolding is prefix_of
  prefix_no_end t p e = go t.kind e
    where
      go : (k : Tok) → prefix_of k ≡ Some p → same_kind k End ≡ false
      go Name e = refl
      go Number e = refl
      go Str e = refl
      go (Keyword n) e = refl
      go (Sign n) e = refl
      go Newline e = refl
      go Indent e = refl
      go Dedent e = refl
      go End e = absurd (cc)

  go_on : Deep → Infix → Read (Deep × Bool)
  go_on left i = r.apply sub left i >>= (λ x. pure (x, true))

  local_go_on : (left : Deep) (i : Infix) → Local (is End) (go_on left i)
  unfolding go_on
  local_go_on left i ts = search (locally, local_apply) depth 8

  local_applied : (left : Deep) (i : Infix) (t : Lexeme) (ts : List Lexeme) → is End t ≡ false → LocalAt (is End) (r.applied sub left i) (t ∷ ts)
  unfolding r.applied go_on
  local_applied left i t ts e = local_after_take (is End) (go_on left i) t ts e (local_go_on left i)

  local_goes_on : (d least : ℕ) (left : Deep) (o : Option Infix) (ts : List Lexeme) → infix_at (first_of ts) ≡ o → LocalAt (is End) (r.goes_on_by sub d least left o) ts
  local_goes_on d least left None ts e = search locally depth 4
  local_goes_on d least left (Some i) [] e = absurd (cc)
  local_goes_on d least left (Some i) (t ∷ ts) e = search (locally, local_applied, infix_no_end) depth 10

  pub local_operate_turn : (d least : ℕ) (left : Deep) → Local (is End) (r.operate_turn sub d least left)
  unfolding r.operate_turn
  local_operate_turn d least left ts = local_after_look (is End) infix_at (r.goes_on_by sub d least left) ts (local_goes_on d least left (infix_at (first_of ts)) ts refl)

  pub local_operate : (d least : ℕ) (left : Deep) → Local (is End) (r.operate sub d least left)
  unfolding r.operate
  local_operate d least left = local_many (is End) (r.operate_turn sub d least) (local_operate_turn d least) left

  operand_taken : (p : Prefix) (t : Lexeme) (ts : List Lexeme) → is End t ≡ false → LocalAt (is End) (take >> r.operand sub p) (t ∷ ts)
  operand_taken p t ts e = local_after_take (is End) (r.operand sub p) t ts e (local_operand p)

  local_prefix_by : (d least : ℕ) (o : Option Prefix) (ts : List Lexeme) → prefix_at (first_of ts) ≡ o → LocalAt (is End) (r.prefix_by sub d least o) ts
  local_prefix_by d least None ts e = local_leaf ts
  local_prefix_by d least (Some p) [] e = absurd (cc)
  local_prefix_by d least (Some p) (t ∷ ts) e = search (locally, operand_taken, prefix_no_end) depth 10

  local_prefix_at : (d least : ℕ) → Local (is End) (look prefix_at >>= r.prefix_by sub d least)
  local_prefix_at d least ts = local_after_look (is End) prefix_at (r.prefix_by sub d least) ts (local_prefix_by d least (prefix_at (first_of ts)) ts refl)

  pub local_prefix : (d least : ℕ) → Local (is End) (r.prefix sub d least)
  unfolding r.prefix
  local_prefix d least ts = search (local_prefix_at, local_round, local_square, locally, no_ends) depth 16

  pub local_whole : (d least : ℕ) → Local (is End) (r.whole sub d least)
  unfolding r.whole
  local_whole d least ts = search (locally, local_prefix, local_operate) depth 8

  pub local_tuple_turn : (found : Row) → Local (is End) (r.tuple_turn sub found)
  unfolding r.tuple_turn
  local_tuple_turn found ts = search (locally, no_ends) depth 14

  pub local_tuple : (d : ℕ) (a : Deep) → Local (is End) (r.tuple sub d a)
  unfolding r.tuple
  local_tuple d a ts = search (locally, no_ends, local_many, local_tuple_turn) depth 16

pub local_expr : (d least : ℕ) → Local (is End) (r.expr d least)
unfolding r.expr
local_expr zero least ts = search locally depth 4
local_expr (suc d) least ts = local_whole (r.expr d) (local_expr d) d least ts

pub local_exprs : (d : ℕ) → Local (is End) (r.exprs d)
unfolding r.exprs
local_exprs zero ts = search locally depth 4
local_exprs (suc d) ts = search (locally, local_expr, local_tuple) depth 8

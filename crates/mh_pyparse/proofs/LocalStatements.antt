-- What a reader of statements answers depends only on what it took and the next token: one line a rule.
use Rattle.std.proofs.Common.{◌≡◌, ℕ, zero, suc, ◌+◌, max, Bool, false, ◌&&◌, nat_eq, List, [], ◌∷◌, Option, Some, None, refl, ap, cond, codes}
use Rattle.std.specs.Cmp.Lexicographic.{pointwise}
use Rattle.mh_reader.specs.Reader.{◌>>=◌, pure, first_of, look}
use Rattle.mh_reader.specs.Locality.{Local, LocalAt, PassesNoEnd, GivesNoEnd}
use Rattle.mh_reader.proofs.Local.{locally, local_many, local_after_take, local_after_look}
use Rattle.mh_pytok.specs.Lexeme.{Lexeme}
use Rattle.mh_pytok.specs.declared.token.Tok.{Tok}
use Rattle.mh_pytok.specs.declared.token.Tok.TheVariants.{Name, Number, Str, Keyword, Sign, Newline, Indent, Dedent, End}
use Rattle.mh_pytree.specs.declared.expression.Operator.{Operator}
use Rattle.mh_pytree.specs.declared.statement.PyStmt.TheVariants as tree
use Rattle.mh_pyparse.specs.Signs.{same_kind, assert_word, break_word, continue_word, def_word, elif_word, else_word, from_word, if_word, import_word, pass_word, raise_word, return_word, while_word, yield_word, star, semicolon, at_sign}
use Rattle.mh_pyparse.specs.Operators.{augment_of}
use Rattle.mh_pyparse.specs.Reading.{Read, Deep, Row, is, text_if, expr}
use Rattle.mh_pyparse.specs.ReadingStatements as q
use Rattle.mh_pyparse.specs.ReadingStatements.{Step, Body, Names, Branches, Params, augment_at, is_module}
use Rattle.mh_pyparse.proofs.Local.{no_end, no_ends, local_closing, local_expr, local_exprs}

no_end_assert : PassesNoEnd (is End) (is assert_word)
no_end_assert = no_end assert_word refl

no_end_break : PassesNoEnd (is End) (is break_word)
no_end_break = no_end break_word refl

no_end_continue : PassesNoEnd (is End) (is continue_word)
no_end_continue = no_end continue_word refl

no_end_def : PassesNoEnd (is End) (is def_word)
no_end_def = no_end def_word refl

no_end_elif : PassesNoEnd (is End) (is elif_word)
no_end_elif = no_end elif_word refl

no_end_else : PassesNoEnd (is End) (is else_word)
no_end_else = no_end else_word refl

no_end_from : PassesNoEnd (is End) (is from_word)
no_end_from = no_end from_word refl

no_end_if : PassesNoEnd (is End) (is if_word)
no_end_if = no_end if_word refl

no_end_import : PassesNoEnd (is End) (is import_word)
no_end_import = no_end import_word refl

no_end_pass : PassesNoEnd (is End) (is pass_word)
no_end_pass = no_end pass_word refl

no_end_raise : PassesNoEnd (is End) (is raise_word)
no_end_raise = no_end raise_word refl

no_end_return : PassesNoEnd (is End) (is return_word)
no_end_return = no_end return_word refl

no_end_while : PassesNoEnd (is End) (is while_word)
no_end_while = no_end while_word refl

no_end_yield : PassesNoEnd (is End) (is yield_word)
no_end_yield = no_end yield_word refl

no_end_star : PassesNoEnd (is End) (is star)
no_end_star = no_end star refl

no_end_semicolon : PassesNoEnd (is End) (is semicolon)
no_end_semicolon = no_end semicolon refl

no_end_at : PassesNoEnd (is End) (is at_sign)
no_end_at = no_end at_sign refl

no_end_newline : PassesNoEnd (is End) (is Newline)
no_end_newline = no_end Newline refl

no_end_indent : PassesNoEnd (is End) (is Indent)
no_end_indent = no_end Indent refl

no_end_dedent : PassesNoEnd (is End) (is Dedent)
no_end_dedent = no_end Dedent refl

no_end_string : GivesNoEnd (is End) (text_if Str)
unfolding text_if
no_end_string = record { nothing_given = λ t e. ap (λ (b : Bool). cond b (Some t.text) None) ((no_end Str refl).not_passed t e) }

no_end_module : PassesNoEnd (is End) is_module
unfolding is_module
no_end_module = record { not_passed = λ t e. ap (λ b. b && pointwise nat_eq t.text (codes "myhdl")) ((no_end Name refl).not_passed t e) }

ruleset words = (no_end_assert, no_end_break, no_end_continue, no_end_def, no_end_elif, no_end_else, no_end_from, no_end_if, no_end_import, no_end_pass, no_end_raise, no_end_return, no_end_while, no_end_yield, no_end_star, no_end_semicolon, no_end_at, no_end_newline, no_end_indent, no_end_dedent, no_end_string, no_end_module)

pub local_names_turn : (found : Names) → Local (is End) (q.names_turn found)
unfolding q.names_turn
local_names_turn found ts = search (locally, no_ends, words) depth 14

pub local_bracketed_names_turn : (found : Names) → Local (is End) (q.bracketed_names_turn found)
unfolding q.bracketed_names_turn
local_bracketed_names_turn found ts = search (locally, no_ends, words) depth 14

pub local_imported_names : (line : ℕ) → Local (is End) (q.imported_names line)
unfolding q.imported_names
local_imported_names line ts = search (locally, no_ends, words, local_many, local_names_turn, local_bracketed_names_turn) depth 14

pub local_imported : (line : ℕ) → Local (is End) (q.imported line)
unfolding q.imported
local_imported line ts = search (locally, no_ends, words, local_imported_names) depth 16

module _ (d : ℕ) where
  augment_no_end : (t : Lexeme) (op : Operator) → augment_of t.kind ≡ Some op → is End t ≡ false
  unfolding is
  augment_no_end t op e = go t.kind e
    where
      go : (k : Tok) → augment_of k ≡ Some op → same_kind k End ≡ false
      go Name e = refl
      go Number e = refl
      go Str e = refl
      go (Keyword n) e = refl
      go (Sign n) e = refl
      go Newline e = refl
      go Indent e = refl
      go Dedent e = refl
      go End e = absurd (cc)

  after_sign : ℕ → Deep → Operator → Read Step
  after_sign line a op = expr d 1 >>= (λ b. pure (tree.Augment line op a.0 b.0, max a.1 b.1 + 1))

  local_after_sign : (line : ℕ) (a : Deep) (op : Operator) → Local (is End) (after_sign line a op)
  unfolding after_sign
  local_after_sign line a op ts = search (locally, local_expr) depth 8

  local_augmented : (line : ℕ) (a : Deep) (op : Operator) (t : Lexeme) (ts : List Lexeme) → is End t ≡ false → LocalAt (is End) (q.augmented d line a op) (t ∷ ts)
  unfolding q.augmented after_sign
  local_augmented line a op t ts e = local_after_take (is End) (after_sign line a op) t ts e (local_after_sign line a op)

  local_augment_by : (line : ℕ) (a : Deep) (o : Option Operator) (ts : List Lexeme) → augment_at (first_of ts) ≡ o → LocalAt (is End) (q.augment_by d line a o) ts
  local_augment_by line a None ts e = search locally depth 4
  local_augment_by line a (Some op) [] e = absurd (cc)
  local_augment_by line a (Some op) (t ∷ ts) e = local_augmented line a op t ts (augment_no_end t op e)

  local_augment_at : (line : ℕ) (a : Deep) → Local (is End) (look augment_at >>= q.augment_by d line a)
  local_augment_at line a ts = local_after_look (is End) augment_at (q.augment_by d line a) ts (local_augment_by line a (augment_at (first_of ts)) ts refl)

  local_valued : (line : ℕ) (a : Deep) → Local (is End) (q.valued d line a)
  unfolding q.valued
  local_valued line a ts = search (local_augment_at, locally) depth 10

  pub local_expressed : (line : ℕ) → Local (is End) (q.expressed d line)
  unfolding q.expressed
  local_expressed line ts = search (locally, no_ends, words, local_exprs, local_valued) depth 14

  pub local_returned : (line : ℕ) → Local (is End) (q.returned d line)
  unfolding q.returned
  local_returned line ts = search (locally, no_ends, words, local_exprs) depth 14

  pub local_yielded : (line : ℕ) → Local (is End) (q.yielded d line)
  unfolding q.yielded
  local_yielded line ts = search (locally, no_ends, words, local_exprs) depth 14

  pub local_raised : (line : ℕ) → Local (is End) (q.raised d line)
  unfolding q.raised
  local_raised line ts = search (locally, no_ends, words, local_expr) depth 14

  pub local_asserted : (line : ℕ) → Local (is End) (q.asserted d line)
  unfolding q.asserted
  local_asserted line ts = search (locally, no_ends, words, local_expr) depth 14

  pub local_holding : (line : ℕ) → Local (is End) (q.holding d line)
  unfolding q.holding
  local_holding line ts = search (locally, no_ends, words, local_yielded, local_raised, local_asserted, local_expressed) depth 16

  pub local_small_by : (line : ℕ) → Local (is End) (q.small_by d line)
  unfolding q.small_by
  local_small_by line ts = search (locally, no_ends, words, local_returned, local_imported, local_holding) depth 24

  pub local_small : Local (is End) (q.small d)
  unfolding q.small
  local_small ts = search (locally, no_ends, words, local_small_by) depth 8

  pub local_line_turn : (body : Body) → Local (is End) (q.line_turn d body)
  unfolding q.line_turn
  local_line_turn body ts = search (locally, no_ends, words, local_small) depth 16

pub local_simple : (d : ℕ) → Local (is End) (q.simple d)
unfolding q.simple
local_simple zero ts = search locally depth 4
local_simple (suc d) ts = search (local_many, local_line_turn) depth 6

module _ (sub : Read Body) (below : Local (is End) sub) where
  pub local_block_turn : (body : Body) → Local (is End) (q.block_turn sub body)
  unfolding q.block_turn
  local_block_turn body ts = search (locally, no_ends, words) depth 14

  pub local_suite : (d : ℕ) → Local (is End) (q.suite sub d)
  unfolding q.suite
  local_suite d ts = search (locally, no_ends, words, local_many, local_block_turn, local_simple) depth 14

  pub local_branch_turn : (d : ℕ) (found : Branches) → Local (is End) (q.branch_turn sub d found)
  unfolding q.branch_turn
  local_branch_turn d found ts = search (locally, no_ends, words, local_expr, local_suite) depth 16

  pub local_otherwise : (d line : ℕ) (found : Branches) → Local (is End) (q.otherwise sub d line found)
  unfolding q.otherwise
  local_otherwise d line found ts = search (locally, no_ends, words, local_suite) depth 14

  pub local_conditional : (d line : ℕ) → Local (is End) (q.conditional sub d line)
  unfolding q.conditional
  local_conditional d line ts = search (locally, no_ends, words, local_many, local_branch_turn, local_otherwise) depth 14

  pub local_for_each : (d line : ℕ) → Local (is End) (q.for_each sub d line)
  unfolding q.for_each
  local_for_each d line ts = search (locally, no_ends, words, local_expr, local_suite) depth 18

  pub local_as_long : (d line : ℕ) → Local (is End) (q.as_long sub d line)
  unfolding q.as_long
  local_as_long d line ts = search (locally, no_ends, words, local_expr, local_suite) depth 16

  pub local_param_turn : (d : ℕ) (found : Params) → Local (is End) (q.param_turn sub d found)
  unfolding q.param_turn
  local_param_turn d found ts = search (locally, no_ends, words, local_expr, local_closing) depth 18

  pub local_defined : (d : ℕ) (marks : Row) (line : ℕ) → Local (is End) (q.defined sub d marks line)
  unfolding q.defined
  local_defined d marks line ts = search (locally, no_ends, words, local_many, local_param_turn, local_suite) depth 18

  pub local_mark_turn : (d : ℕ) (found : Row) → Local (is End) (q.mark_turn sub d found)
  unfolding q.mark_turn
  local_mark_turn d found ts = search (locally, no_ends, words, local_expr) depth 14

  pub local_marked : (d : ℕ) → Local (is End) (q.marked sub d)
  unfolding q.marked
  local_marked d ts = search (locally, no_ends, words, local_many, local_mark_turn, local_defined) depth 16

  pub local_compound : (d line : ℕ) → Local (is End) (q.compound sub d line)
  unfolding q.compound
  local_compound d line ts = search (locally, no_ends, words, local_conditional, local_for_each, local_as_long, local_defined, local_marked, local_simple) depth 28

  pub local_stmt_by : (d : ℕ) → Local (is End) (q.stmt_by sub d)
  unfolding q.stmt_by
  local_stmt_by d ts = search (locally, no_ends, words, local_compound, local_simple) depth 10

pub local_stmt : (d : ℕ) → Local (is End) (q.stmt d)
unfolding q.stmt
local_stmt zero ts = search locally depth 4
local_stmt (suc d) ts = local_stmt_by (q.stmt d) (local_stmt d) d ts

local_text_turn : (d : ℕ) (body : Body) → Local (is End) (q.text_turn d body)
unfolding q.text_turn
local_text_turn d body ts = search (locally, local_stmt) depth 12

pub local_stmts : (d : ℕ) → Local (is End) (q.stmts d)
unfolding q.stmts
local_stmts d ts = search (local_many, local_text_turn) depth 6

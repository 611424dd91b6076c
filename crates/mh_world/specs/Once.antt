-- Instances and generators, each once, as the program holds them.
use Rattle.std.specs.Prelude.{◌≡◌, ℕ}
use Rattle.std.specs.BTreeSet.{contains}
use Rattle.std.specs.Ordering.{nat_cmp}
use Rattle.mh_consts.specs.declared.kinds.Const.TheVariants as c
use Rattle.mh_world.specs.Blocks.{is_met}
use Rattle.mh_world.specs.declared.blocks.Once.{Once}

-- the numbers are those of the parts
pub record IsOnce (o : Once) : Type 0 where
  pub instances : (n : ℕ) → contains nat_cmp o.instances n ≡ is_met o.parts (c.Instance n)
  pub generators : (n : ℕ) → contains nat_cmp o.generators n ≡ is_met o.parts (c.Generator n)

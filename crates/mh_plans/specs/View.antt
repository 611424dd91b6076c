-- What was chosen for a design, as the program holds it.
use Rattle.mh_plans.specs.Renumbered as spec
use Rattle.mh_plans.specs.declared.chosen.Chosen.{Chosen}

abbrev pub chosen_of : Chosen → spec.Chosen
chosen_of k = record { signals = k.signals; mems = k.mems; tables = k.tables }

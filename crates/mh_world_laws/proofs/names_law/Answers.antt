use Rattle.mh_world_laws.proofs.Binding.{bind_keeps, push_keeps, pop_keeps}
use Rattle.mh_world_laws.proofs.Seeing.{name_keeps, begins_fits, counted_keeps}
use Rattle.mh_world_laws.proofs.Listing.{new_keeps, set_keeps, get_keeps, item_keeps, items_keep}
use Rattle.mh_world_laws.proofs.names_law.Goals as goal

pub returns-clause-begins : goal.returns-clause-begins
returns-clause-begins c = begins_fits

pub returns-clause-counted : goal.returns-clause-counted
returns-clause-counted c = counted_keeps

pub returns-clause-names : goal.returns-clause-names
returns-clause-names c = λ l t w h. name_keeps w h l t

pub returns-clause-bindings : goal.returns-clause-bindings
returns-clause-bindings c = bind_keeps

pub returns-clause-pushes : goal.returns-clause-pushes
returns-clause-pushes c = push_keeps

pub returns-clause-pops : goal.returns-clause-pops
returns-clause-pops c = pop_keeps

pub returns-clause-new_lists : goal.returns-clause-new_lists
returns-clause-new_lists c = λ l vs w h q. new_keeps w h l vs q

pub returns-clause-set_items : goal.returns-clause-set_items
returns-clause-set_items c = λ l base at v w h q. set_keeps w h l base at v q

pub returns-clause-get_items : goal.returns-clause-get_items
returns-clause-get_items c = λ l base at w h q. get_keeps w h l base at q

pub returns-clause-items : goal.returns-clause-items
returns-clause-items c = λ l v i w h q. item_keeps w h l v i q

pub returns-clause-all_items : goal.returns-clause-all_items
returns-clause-all_items c = λ l v w h q. items_keep w h l v q

-- What the search's lists of fields stand for.
use Rattle.std.specs.Prelude.{◌⊎◌, List, ◌++◌, Contains, map}
use Rattle.std.specs.declared.vec.Vec.{Vec}
use Rattle.std.specs.declared.alloc.Global.{Global}
use Rattle.gq_merging.specs.Helping.SetTables.{MemberOf}
use Rattle.gq_merging.specs.Helping.PairTables.{MetOf, LookOf, AreMet}
use Rattle.gq_merging.specs.Helping.SearchTables.{IsClique, AreMetInOne}
use Rattle.gq_merging.specs.Helping.Views.{members_view}
use Rattle.gq_merging.specs.declared.rows.Member.{Member}

-- a list with the others behind it
abbrev pub list_with : List Member → Vec Member Global → List MemberOf
list_with others list = members_view list.items ++ members_view others

-- each list is a clique with the others
abbrev pub AreCliquesWith : LookOf → List (Vec Member Global) → List Member → Type 0
AreCliquesWith w lists others = (list : Vec Member Global) → Contains lists list → IsClique w (list_with others list)

-- both are among the others, or in one of the lists with the others
abbrev pub AreMetWith : List (Vec Member Global) → List Member → MetOf → Type 0
AreMetWith lists others p = AreMet (members_view others) (members_view others) p ⊎ AreMetInOne (map (list_with others) lists) p

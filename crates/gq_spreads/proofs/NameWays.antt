-- What names lead to by the rows of names is what their fragments reach.
use Rattle.std.proofs.Common.{◌≡◌, ℕ, List, sym, subst, Contains, Some, Vec, Global}
use Rattle.gq_graph.specs.Reach.{Reach, start, step, row}
use Rattle.gq_types.specs.Entries.{Text}
use Rattle.gq_document.specs.Definitions.{FragmentOf}
use Rattle.gq_document.specs.Reaches.{Reaches, at_once, through}
use Rattle.gq_spreads.specs.Helping.Rows.{texts}
use Rattle.gq_spreads.specs.Helping.NameRows.{first_number, IsNameStep, AreNameRows}
use Rattle.gq_spreads.proofs.ReachLemmas.{reached_stands}
use Rattle.gq_spreads.proofs.NameRowLemmas.{has_number, same_name}

-- a fragment of that name reaches the fragment
pub record LeadsTo (fs : List FragmentOf) (text : Text) (f : FragmentOf) : Type 0 where
  pub from : FragmentOf
  pub stands : Contains fs from
  pub named : text ≡ from.name.text
  pub reached : Reaches fs from.set f

module _ (fs : List FragmentOf) (rows : List (Vec ℕ Global)) (are : AreNameRows fs rows) (text : Text) (m : ℕ) (number : first_number (texts fs) text ≡ Some m) where
  pub to_way : (t : FragmentOf) → Contains fs t → text ≡ t.name.text → (f : FragmentOf) → Reaches fs t.set f → (k : ℕ) → first_number (texts fs) f.name.text ≡ Some k →
      Reach (row rows m) (row rows) k
  to_way t stands named f (at_once there spread) k at = start ((are.steps m k).1 (record {
    fragment = t;
    stands = stands;
    from = subst (λ u. first_number (texts fs) u ≡ Some m) named number;
    name = spread.name;
    spread = spread.stands;
    to = subst (λ u. first_number (texts fs) u ≡ Some k) (sym spread.names) at;
  }))
  to_way t stands named f (through {g = g} way there spread) k at =
      let g_stands = reached_stands fs t.set g way in
      let j = has_number fs g g_stands in
      step (to_way t stands named g way j.0 j.1) ((are.steps j.0 k).1 (record {
        fragment = g;
        stands = g_stands;
        from = j.1;
        name = spread.name;
        spread = spread.stands;
        to = subst (λ u. first_number (texts fs) u ≡ Some k) (sym spread.names) at;
      }))

  pub from_way : (k : ℕ) → Reach (row rows m) (row rows) k → (f : FragmentOf) → Contains fs f → first_number (texts fs) f.name.text ≡ Some k → LeadsTo fs text f
  from_way k (start found) f there at =
      let s : IsNameStep fs m k = (are.steps m k).0 found in
      record {
        from = s.fragment;
        stands = s.stands;
        named = same_name fs text s.fragment.name.text m number s.from;
        reached = at_once there (record { name = s.name; stands = s.spread; names = same_name fs s.name.text f.name.text k s.to at });
      }
  from_way k (step {m = j} way found) f there at =
      let s : IsNameStep fs j k = (are.steps j k).0 found in
      let before = from_way j way s.fragment s.stands s.from in
      record {
        from = before.from;
        stands = before.stands;
        named = before.named;
        reached = through before.reached there (record { name = s.name; stands = s.spread; names = same_name fs s.name.text f.name.text k s.to at });
      }

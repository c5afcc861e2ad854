-- What the laws ask of a collection.
use Rattle.std.specs.Prelude.{List, map}
use Rattle.report_rules.specs.Collected.{SelectedItem}
use Rattle.session_types.specs.Members.{IsMember}
use Rattle.session_rules.specs.Fits.{HasFixtureClosure, Distinct}
use Rattle.session_rules.specs.World.{Language, Rules, Item}

abbrev pub chosen_item : SelectedItem → Item
chosen_item c = c.item

-- the closure of each selected item fits the table, and no two items have one node
pub record IsFit {L : Language} (rules : Rules L) (selected : List SelectedItem) : Type 0 where
  pub fits : (c : SelectedItem) → IsMember c selected → HasFixtureClosure rules c.item
  pub distinct : Distinct (map chosen_item selected)

-- What is kept of a fixture that was made.
use Rattle.session_rules.specs.World.{Language, Rules}
use Rattle.session_rules.specs.Demand.{NewInstance}
use Rattle.fixture_instances.specs.declared.ends.CachedResult.{CachedResult}
use Rattle.fixture_instances.specs.Views.{slot_of}

abbrev pub made_with : {L : Language} → Rules L → CachedResult L.Value L.Thrown L.Rest → L.World → NewInstance L
made_with rules h w = record { held = slot_of rules h; world = w }

-- The state of a session, and how instances are torn down (pytest's fixture guide, "Teardown/Cleanup"; reference, `request`).
use Rattle.std.specs.Prelude.{ℕ, Bool, true, false, List, [], ◌∷◌, ◌++◌, Option, Some, None}
use Rattle.std.specs.Option.{option_to_list}
use Rattle.session_types.specs.declared.journal.Event.{Event}
use Rattle.session_types.specs.declared.journal.Event.TheVariants.{DownBegins, Down}
use Rattle.session_types.specs.Live.{down_order, without, instance_by_number, instance_numbers}
use Rattle.session_rules.specs.World.{Language, Rules, LiveInstance, BodyEnd, Returned, Yielded, Raised, NewException, ClosedRequest, Phase}

-- what answered a demand: its definition, its number, its value, and the numbers of all on which it depends
pub record Grant (L : Language) : Type 0 where
  pub def : ℕ
  pub order : ℕ
  pub value : L.Value
  pub bases : List ℕ

-- how a phase of an item ended
pub record PhaseEnd (L : Language) : Type 0 where
  pub phase : Phase
  pub item : ℕ
  pub raised : List L.Thrown
  pub told : L.Told
  -- its own events
  pub events : List Event

-- the `item` object that hooks get for the item of a node
pub record ItemObject (L : Language) : Type 0 where
  pub node : ℕ
  pub object : L.Value

-- a session in its course
pub record SessionState (L : Language) : Type 0 where
  pub world : L.World
  pub live : List (LiveInstance L)
  -- the number of set-ups so far, failed ones among them
  pub next : ℕ
  pub events : List Event
  -- the instance of the item's class, where it has one
  pub instance : Option L.Value
  -- the `item` objects that were made, one for each item
  pub objects : List (ItemObject L)
  -- the values other than None that the hook call has gathered
  pub values : List L.Value
  -- what answered the demands of the item's set-up
  pub given : List (Grant L)
  -- the `request` of the item's test, where it took one
  pub request : Option L.Value
  -- whether the item's teardown was reached
  pub left : Bool
  pub ends : List (PhaseEnd L)
  -- the number of events of the phases that ended
  pub told : ℕ
  -- the number of failures and errors so far
  pub bad : ℕ

-- the exceptions of a step, in order, and the state behind it
pub record Step (L : Language) : Type 0 where
  pub raised : List L.Thrown
  pub state : SessionState L

abbrev pub session_step : {L : Language} → List L.Thrown → SessionState L → Step L
session_step raised s = record { raised = raised; state = s }

abbrev pub in_world : {L : Language} → L.World → SessionState L → SessionState L
in_world w s = record s { world = w }

abbrev pub emit : {L : Language} → Event → SessionState L → SessionState L
emit e s = record s { events = s.events ++ e ∷ [] }

abbrev pub also_raised : {L : Language} → List L.Thrown → Step L → Step L
also_raised raised r = record r { raised = raised ++ r.raised }

-- what a teardown raised, and the world behind it
pub record TeardownEnd (L : Language) : Type 0 where
  pub raised : List L.Thrown
  pub world : L.World

abbrev pub torn : {L : Language} → List L.Thrown → L.World → TeardownEnd L
torn raised w = record { raised = raised; world = w }

-- all finalizers are called, whatever raises
abbrev pub finalize_all : {L : Language} → Rules L → List L.Value → TeardownEnd L → TeardownEnd L
finalize_all rules [] t = t
finalize_all rules (f ∷ fs) t = finalize_all rules fs (torn (t.raised ++ option_to_list (rules.finalize f t.world).raised) (rules.finalize f t.world).world)

abbrev pub also_threw : {L : Language} → NewException L → TeardownEnd L
also_threw t = torn (t.thrown ∷ []) t.world

-- how what remained behind a `yield` ended: a second `yield` is given up, and is an exception
abbrev pub rest_ended : {L : Language} → Rules L → ℕ → BodyEnd L → L.World → TeardownEnd L
rest_ended rules d (Returned v) w = torn [] w
rest_ended rules d (Raised e) w = torn (e ∷ []) w
rest_ended rules d (Yielded v rest) w = also_threw (rules.yielded_again d (rules.abandon rest w))

abbrev pub rest_resumed : {L : Language} → Rules L → ℕ → Option L.Rest → L.World → TeardownEnd L
rest_resumed rules d None w = torn [] w
rest_resumed rules d (Some rest) w = rest_ended rules d (rules.resume rest w).how (rules.resume rest w).world

abbrev pub closed_request : {L : Language} → Rules L → Option L.Value → L.World → ClosedRequest L
closed_request rules None w = record { finalizers = []; world = w }
closed_request rules (Some request) w = rules.close request w

-- from here on it takes no finalizers; what remains is resumed, and then its finalizers are called, latest first
abbrev pub torn_behind : {L : Language} → Rules L → LiveInstance L → ClosedRequest L → TeardownEnd L
torn_behind rules i c = finalize_all rules c.finalizers (rest_resumed rules i.def i.slot.rest c.world)

abbrev pub torn_of : {L : Language} → Rules L → LiveInstance L → L.World → TeardownEnd L
torn_of rules i w = torn_behind rules i (closed_request rules i.slot.request w)

abbrev pub some_raised : {A : Type 0} → List A → Bool
some_raised [] = false
some_raised (x ∷ xs) = true

abbrev pub gone : {L : Language} → LiveInstance L → TeardownEnd L → SessionState L → SessionState L
gone i t s = record s { world = t.world; live = without i.order s.live; events = s.events ++ DownBegins i.order ∷ Down i.order (some_raised t.raised) ∷ [] }

abbrev pub down : {L : Language} → Rules L → LiveInstance L → SessionState L → Step L
down rules i s = session_step (torn_of rules i s.world).raised (gone i (torn_of rules i s.world) s)

-- the one with a number, where it still lives
abbrev pub down_one : {L : Language} → Rules L → Option (LiveInstance L) → SessionState L → Step L
down_one rules None s = session_step [] s
down_one rules (Some i) s = down rules i s

-- all are done, whatever raises; `raised` is what was raised before
abbrev pub down_more : {L : Language} → Rules L → List ℕ → List L.Thrown → SessionState L → Step L
down_more rules [] raised s = session_step raised s
down_more rules (n ∷ ns) raised s = down_more rules ns (raised ++ (down_one rules (instance_by_number n s.live) s).raised) (down_one rules (instance_by_number n s.live) s).state

abbrev pub down_all : {L : Language} → Rules L → List (LiveInstance L) → SessionState L → Step L
down_all rules set s = down_more rules (instance_numbers (down_order set)) [] s

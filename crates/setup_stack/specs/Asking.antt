-- What is left to do of a demand that is at work: the definitions that wait for what they asked for, the outermost first, and the
-- one that is asking.
use Rattle.std.specs.Prelude.{◌≡◌, ℕ, zero, suc, ◌+◌, ◌<◌, List, [], ◌∷◌, ◌++◌, length, drop, Option, Some, None}
use Rattle.session_types.specs.Members.{IsMember}
use Rattle.session_rules.specs.World.{Language, Rules, Item}
use Rattle.session_rules.specs.Teardown.{SessionState, Step, session_step}
use Rattle.session_rules.specs.Demand.{Reply, reply, answer_with, ask_all, ask_next, demand, fault_reply}
use Rattle.session_rules.specs.Fits.{IsWellScoped}
use Rattle.setup_stack.specs.declared.answers.Answer.{Answer as CodeAnswer}
use Rattle.setup_stack.specs.declared.answers.Answer.TheVariants as told
use Rattle.setup_stack.specs.declared.frame.AskFrame.{AskFrame}
use Rattle.setup_stack.specs.declared.frame.Turn.{Turn}
use Rattle.setup_stack.specs.declared.frame.Turn.TheVariants.{Goes, Done}
use Rattle.setup_stack.specs.Views.{grants_of, answer_in}

-- a definition that has been given nothing yet
abbrev pub fresh_frame : {V : Type 0} → ℕ → List ℕ → AskFrame V
fresh_frame d requests = record { def = d; requests = requests; given = [] }

-- what it asks for yet
abbrev pub wants : {V : Type 0} → AskFrame V → List ℕ
wants f = drop (length f.given) f.requests

-- what it asks for yet behind what it waits for
abbrev pub wants_then : {V : Type 0} → AskFrame V → List ℕ
wants_then f = drop (length f.given + 1) f.requests

-- the top goes on asking
abbrev pub goes_on : {L : Language} → Rules L → Item → ℕ → AskFrame L.Value → SessionState L → Reply L
goes_on rules item depth f s = answer_with rules item f.def (ask_all (demand rules item depth) (wants f) (grants_of rules f.given) s)

-- one that waits is handed an answer
abbrev pub handed_on : {L : Language} → Rules L → Item → ℕ → AskFrame L.Value → Reply L → Reply L
handed_on rules item depth f r = answer_with rules item f.def (ask_next (ask_all (demand rules item depth) (wants_then f)) (grants_of rules f.given) r.answer r.state)

-- what comes of all of them
abbrev pub left_of : {L : Language} → Rules L → Item → ℕ → List (AskFrame L.Value) → AskFrame L.Value → SessionState L → Reply L
left_of rules item zero below top s = fault_reply (rules.fault item.node s.world) s
left_of rules item (suc depth) [] top s = goes_on rules item depth top s
left_of rules item (suc depth) (f ∷ below) top s = handed_on rules item depth f (left_of rules item depth below top s)

-- what is asked for is a definition of the table, and goes less than `depth` deep
abbrev pub IsReady : {L : Language} → Rules L → Item → ℕ → ℕ → ℕ → Type 0
IsReady rules item many depth d = (d < many) × IsWellScoped rules item depth d

abbrev pub AreReady : {L : Language} → Rules L → Item → ℕ → ℕ → List ℕ → Type 0
AreReady rules item many depth ds = (d : ℕ) → IsMember d ds → IsReady rules item many depth d

abbrev pub IsWithinDepth : {L : Language} → Rules L → Item → ℕ → ℕ → List (AskFrame L.Value) → AskFrame L.Value → Type 0
IsWithinDepth rules item many zero below top = ⊥
IsWithinDepth rules item many (suc depth) [] top = (top.def < many) × AreReady rules item many depth (wants top)
IsWithinDepth rules item many (suc depth) (f ∷ below) top = (f.def < many) × AreReady rules item many depth (wants_then f) × IsWithinDepth rules item many depth below top

abbrev pub total_turns : (ℕ → ℕ) → List ℕ → ℕ
total_turns f [] = 0
total_turns f (x ∷ xs) = f x + total_turns f xs

-- how many turns a demand takes at most
abbrev pub demand_turns : Item → ℕ → ℕ → ℕ
demand_turns item zero d = 1
demand_turns item (suc depth) d = 2 + total_turns (demand_turns item depth) (item.requests d)

abbrev pub stack_turns : {V : Type 0} → Item → ℕ → List (AskFrame V) → AskFrame V → ℕ
stack_turns item zero below top = 0
stack_turns item (suc depth) [] top = 1 + total_turns (demand_turns item depth) (wants top)
stack_turns item (suc depth) (f ∷ below) top = 1 + total_turns (demand_turns item depth) (wants_then f) + stack_turns item depth below top

-- who waits gets the answer
abbrev pub IsHanded : {V E : Type 0} → List (AskFrame V) → CodeAnswer V E → Turn V E → List (AskFrame V) → Type 0
IsHanded below (told.Refused es) turn after = turn ≡ Done (told.Refused es)
IsHanded [] (told.Given g) turn after = turn ≡ Done (told.Given g)
IsHanded {V} (f ∷ below) (told.Given g) turn after = (last : AskFrame V) × (f ∷ below ≡ after ++ last ∷ []) × (turn ≡ Goes (record last { given = last.given ++ g ∷ [] }))

-- a turn does not change what comes of all of them
abbrev pub IsTurn : {L : Language} → Rules L → Item → ℕ → List (AskFrame L.Value) → AskFrame L.Value → SessionState L → Turn L.Value L.Thrown → List (AskFrame L.Value) → SessionState L → Type 0
IsTurn rules item many below top s (Goes next) after t =
    (left_of rules item rules.depth below top s ≡ left_of rules item rules.depth after next t)
    × IsWithinDepth rules item many rules.depth after next
    × (stack_turns item rules.depth after next < stack_turns item rules.depth below top)
IsTurn rules item many below top s (Done a) after t = left_of rules item rules.depth below top s ≡ reply (answer_in rules a) t

-- where none was refused it goes on; else these were raised
abbrev pub goes_or_ends : {L : Language} → (SessionState L → Step L) → Option (List L.Thrown) → SessionState L → Step L
goes_or_ends on None s = on s
goes_or_ends on (Some raised) s = session_step raised s

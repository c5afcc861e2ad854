-- A turn of a demand does not change what comes of it.
use Rattle.std.proofs.Common.{◌≡◌, ℕ, zero, suc, ◌+◌, ◌<◌, List, [], ◌∷◌, ◌++◌, inl, inr, refl, sym, ap, ◌∙◌, arith, subst, length-append, drop}
use Rattle.session_types.specs.Members.{IsMember}
use Rattle.session_types.specs.Live.{find}
use Rattle.session_rules.specs.World.{Language, Rules, Item}
use Rattle.session_rules.specs.Teardown.{Grant, SessionState}
use Rattle.session_rules.specs.Demand.{Answer, Given, Refused, Reply, reply, answer_with, ask_all, demand, settle}
use Rattle.session_rules.specs.Fits.{IsWellScoped}
use Rattle.setup_stack.specs.declared.answers.Answer.{Answer as CodeAnswer}
use Rattle.setup_stack.specs.declared.answers.Answer.TheVariants as told
use Rattle.setup_stack.specs.declared.answers.Grant.{Grant as CodeGrant}
use Rattle.setup_stack.specs.declared.frame.AskFrame.{AskFrame}
use Rattle.setup_stack.specs.declared.frame.Turn.{Turn}
use Rattle.setup_stack.specs.declared.frame.Turn.TheVariants.{Goes, Done}
use Rattle.setup_stack.specs.Asking.{AreReady, IsWithinDepth, IsHanded, IsReady, IsTurn, goes_on, handed_on, left_of, fresh_frame, demand_turns, total_turns, stack_turns, wants, wants_then}
use Rattle.setup_stack.specs.Views.{answer_in, grant_of, grants_of}

-- what is asked for is a definition of the table
abbrev pub AsksKnown : Item → ℕ → Type 0
AsksKnown item many = (d e : ℕ) → IsMember e (item.requests d) → e < many

pub opened_demand : {L : Language} (rules : Rules L) (item : Item) (depth e : ℕ) (s : SessionState L) → demand rules item depth e s ≡ left_of rules item depth [] (fresh_frame e (item.requests e)) s
opened_demand rules item zero e s = refl
opened_demand rules item (suc depth) e s = refl

pub opened_deep : {L : Language} (rules : Rules L) (item : Item) (many depth e : ℕ) → AsksKnown item many → IsReady rules item many depth e → IsWithinDepth rules item many depth [] (fresh_frame {V = L.Value} e (item.requests e))
opened_deep rules item many zero e known ready = absurd ready.1
opened_deep rules item many (suc depth) e known ready = (ready.0, λ x h. (known e x h, (ready.1 x h).1))

opened_turns : (V : Type 0) (item : Item) (depth e : ℕ) → stack_turns {V = V} item depth [] (fresh_frame e (item.requests e)) < demand_turns item depth e
opened_turns V item zero e = omega arith
opened_turns V item (suc depth) e = omega arith

-- one more asks
pub record Asks {L : Language} (rules : Rules L) (item : Item) (many depth : ℕ) (below : List (AskFrame L.Value)) (top : AskFrame L.Value) (e : ℕ) (s : SessionState L) : Type 0 where
  pub same : left_of rules item depth below top s ≡ left_of rules item depth (below ++ top ∷ []) (fresh_frame e (item.requests e)) s
  pub deep : IsWithinDepth rules item many depth (below ++ top ∷ []) (fresh_frame {V = L.Value} e (item.requests e))
  pub fewer : stack_turns item depth (below ++ top ∷ []) (fresh_frame e (item.requests e)) < stack_turns item depth below top

pub asks : {L : Language} (rules : Rules L) (item : Item) (many depth : ℕ) (below : List (AskFrame L.Value)) (top : AskFrame L.Value) (e : ℕ) (s : SessionState L) → AsksKnown item many → wants top ≡ e ∷ wants_then top → IsWithinDepth rules item many depth below top → Asks rules item many depth below top e s
asks rules item many zero below top e s known w deep = absurd deep
asks {L} rules item many (suc depth) [] top e s known w deep =
    let rest = wants_then top in
    let ready : IsReady rules item many depth e = deep.1 e (subst (λ (l : List ℕ). IsMember e l) (sym w) (inl refl)) in
    let o = opened_turns L.Value item depth e in
    let ew : total_turns (demand_turns item depth) (wants top) ≡ demand_turns item depth e + total_turns (demand_turns item depth) rest = ap (λ (l : List ℕ). total_turns (demand_turns item depth) l) w in
    record {
      same = ap (λ (l : List ℕ). answer_with rules item top.def (ask_all (demand rules item depth) l (grants_of rules top.given) s)) w
          ∙ ap (λ (r : Reply L). handed_on rules item depth top r) (opened_demand rules item depth e s);
      deep = (deep.0, (λ x h. deep.1 x (subst (λ (l : List ℕ). IsMember x l) (sym w) (inr h))), opened_deep rules item many depth e known ready);
      fewer = omega (arith, o, ew);
    }
asks {L} rules item many (suc depth) (f ∷ below) top e s known w deep =
    let r = asks rules item many depth below top e s known w deep.2 in
    let l = r.fewer in
    record {
      same = ap (λ (x : Reply L). handed_on rules item depth f x) r.same;
      deep = (deep.0, deep.1, r.deep);
      fewer = omega (arith, l);
    }

-- the top has been given all, and is found or made
pub settled_top : {L : Language} (rules : Rules L) (item : Item) (depth : ℕ) (top : AskFrame L.Value) (a : CodeAnswer L.Value L.Thrown) (s t : SessionState L) → wants top ≡ [] → answer_in rules a ≡ (settle rules item top.def (grants_of rules top.given) (find top.def (item.place top.def) s.live) s).answer → t ≡ (settle rules item top.def (grants_of rules top.given) (find top.def (item.place top.def) s.live) s).state → goes_on rules item depth top s ≡ reply (answer_in rules a) t
settled_top {L} rules item depth top a s t w ea et =
    ap (λ (l : List ℕ). answer_with rules item top.def (ask_all (demand rules item depth) l (grants_of rules top.given) s)) w
    ∙ (ap (λ (x : Answer L). reply x (settle rules item top.def (grants_of rules top.given) (find top.def (item.place top.def) s.live) s).state) (sym ea)
    ∙ ap (λ (x : SessionState L). reply (answer_in rules a) x) (sym et))

refused_all : {L : Language} (rules : Rules L) (item : Item) (many depth : ℕ) (below : List (AskFrame L.Value)) (top : AskFrame L.Value) (es : List L.Thrown) (s t : SessionState L) → ((d : ℕ) → AreReady rules item many d (wants top) → goes_on rules item d top s ≡ reply (Refused es) t) → IsWithinDepth rules item many depth below top → left_of rules item depth below top s ≡ reply (Refused es) t
refused_all rules item many zero below top es s t go deep = absurd deep
refused_all rules item many (suc depth) [] top es s t go deep = go depth deep.1
refused_all {L} rules item many (suc depth) (f ∷ below) top es s t go deep =
    ap (λ (x : Reply L). handed_on rules item depth f x) (refused_all rules item many depth below top es s t go deep.2)

only_top : {L : Language} (rules : Rules L) (item : Item) (many depth : ℕ) (top : AskFrame L.Value) (r : Reply L) (s : SessionState L) → ((d : ℕ) → AreReady rules item many d (wants top) → goes_on rules item d top s ≡ r) → IsWithinDepth rules item many depth [] top → left_of rules item depth [] top s ≡ r
only_top rules item many zero top r s go deep = absurd deep
only_top rules item many (suc depth) top r s go deep = go depth deep.1

pub grants_push : {L : Language} (rules : Rules L) (gs : List (CodeGrant L.Value)) (g : CodeGrant L.Value) → grants_of rules (gs ++ g ∷ []) ≡ grants_of rules gs ++ grant_of rules g ∷ []
grants_push rules [] g = refl
grants_push {L} rules (x ∷ gs) g = ap (λ (l : List (Grant L)). grant_of rules x ∷ l) (grants_push rules gs g)

abbrev pub given_more : {V : Type 0} → AskFrame V → CodeGrant V → AskFrame V
given_more f g = record f { given = f.given ++ g ∷ [] }

wants_more : {V : Type 0} (f : AskFrame V) (g : CodeGrant V) → wants (given_more f g) ≡ wants_then f
wants_more f g = ap (λ (n : ℕ). drop n f.requests) (length-append f.given (g ∷ []))

positive : {L : Language} (rules : Rules L) (item : Item) (many depth : ℕ) (below : List (AskFrame L.Value)) (top : AskFrame L.Value) → IsWithinDepth rules item many depth below top → 0 < stack_turns item depth below top
positive rules item many zero below top deep = absurd deep
positive rules item many (suc depth) [] top deep = omega arith
positive rules item many (suc depth) (f ∷ below) top deep = omega arith

-- the one that waits goes on
pub record Answered {L : Language} (rules : Rules L) (item : Item) (many depth : ℕ) (after : List (AskFrame L.Value)) (last top : AskFrame L.Value) (g : CodeGrant L.Value) (s t : SessionState L) : Type 0 where
  pub same : left_of rules item depth (after ++ last ∷ []) top s ≡ left_of rules item depth after (given_more last g) t
  pub deep : IsWithinDepth rules item many depth after (given_more last g)
  pub fewer : stack_turns item depth after (given_more last g) < stack_turns item depth (after ++ last ∷ []) top

answered : {L : Language} (rules : Rules L) (item : Item) (many depth : ℕ) (after : List (AskFrame L.Value)) (last top : AskFrame L.Value) (g : CodeGrant L.Value) (s t : SessionState L) → ((d : ℕ) → AreReady rules item many d (wants top) → goes_on rules item d top s ≡ reply (Given (grant_of rules g)) t) → IsWithinDepth rules item many depth (after ++ last ∷ []) top → Answered rules item many depth after last top g s t
answered rules item many zero after last top g s t go deep = absurd deep
answered {L} rules item many (suc depth) [] last top g s t go deep =
    let w = wants_more last g in
    let p = positive rules item many depth [] top deep.2 in
    let ew : total_turns (demand_turns item depth) (wants (given_more last g)) ≡ total_turns (demand_turns item depth) (wants_then last) = ap (λ (l : List ℕ). total_turns (demand_turns item depth) l) w in
    record {
      same = ap (λ (x : Reply L). handed_on rules item depth last x) (only_top rules item many depth top (reply (Given (grant_of rules g)) t) s go deep.2)
          ∙ (ap (λ (l : List (Grant L)). answer_with rules item last.def (ask_all (demand rules item depth) (wants_then last) l t)) (sym (grants_push rules last.given g))
          ∙ ap (λ (l : List ℕ). answer_with rules item last.def (ask_all (demand rules item depth) l (grants_of rules (last.given ++ g ∷ [])) t)) (sym w));
      deep = (deep.0, λ x h. deep.1 x (subst (λ (l : List ℕ). IsMember x l) w h));
      fewer = omega (arith, p, ew);
    }
answered {L} rules item many (suc depth) (f ∷ after) last top g s t go deep =
    let r = answered rules item many depth after last top g s t go deep.2 in
    let l = r.fewer in
    record {
      same = ap (λ (x : Reply L). handed_on rules item depth f x) r.same;
      deep = (deep.0, deep.1, r.deep);
      fewer = omega (arith, l);
    }

-- what a turn that asks for more did
pub asked_more : {L : Language} (rules : Rules L) (item : Item) (many : ℕ) (below after : List (AskFrame L.Value)) (top frame : AskFrame L.Value) (e : ℕ) (requests : List ℕ) (s : SessionState L) → AsksKnown item many → IsWithinDepth rules item many rules.depth below top → wants top ≡ e ∷ wants_then top → frame ≡ fresh_frame e requests → requests ≡ item.requests e → after ≡ below ++ top ∷ [] → IsTurn rules item many below top s (Goes frame) after s
asked_more {L} rules item many below after top frame e requests s known deep w ef er ea =
    let r = asks rules item many rules.depth below top e s known w deep in
    let q : frame ≡ fresh_frame e (item.requests e) = ef ∙ ap (λ (l : List ℕ). fresh_frame e l) er in
    subst (λ (x : List (AskFrame L.Value)). IsTurn rules item many below top s (Goes frame) x s) (sym ea)
    (subst (λ (x : AskFrame L.Value). IsTurn rules item many below top s (Goes x) (below ++ top ∷ []) s) (sym q) (r.same, r.deep, r.fewer))

-- what a turn that answers did
pub handed_over : {L : Language} (rules : Rules L) (item : Item) (many : ℕ) (below after : List (AskFrame L.Value)) (top : AskFrame L.Value) (a : CodeAnswer L.Value L.Thrown) (turn : Turn L.Value L.Thrown) (s t : SessionState L) → IsWithinDepth rules item many rules.depth below top → ((d : ℕ) → AreReady rules item many d (wants top) → goes_on rules item d top s ≡ reply (answer_in rules a) t) → IsHanded below a turn after → IsTurn rules item many below top s turn after t
handed_over {L} rules item many below after top (told.Refused es) turn s t deep go h =
    subst (λ (x : Turn L.Value L.Thrown). IsTurn rules item many below top s x after t) (sym h) (refused_all rules item many rules.depth below top es s t go deep)
handed_over {L} rules item many [] after top (told.Given g) turn s t deep go h =
    subst (λ (x : Turn L.Value L.Thrown). IsTurn rules item many [] top s x after t) (sym h) (only_top rules item many rules.depth top (reply (Given (grant_of rules g)) t) s go deep)
handed_over {L} rules item many (f ∷ below) after top (told.Given g) turn s t deep go h =
    let last = h.0 in
    let cut : f ∷ below ≡ after ++ last ∷ [] = h.1 in
    let r = answered rules item many rules.depth after last top g s t go (subst (λ (x : List (AskFrame L.Value)). IsWithinDepth rules item many rules.depth x top) cut deep) in
    subst (λ (x : Turn L.Value L.Thrown). IsTurn rules item many (f ∷ below) top s x after t) (sym h.2)
    (subst (λ (x : List (AskFrame L.Value)). IsTurn rules item many x top s (Goes (given_more last g)) after t) (sym cut) (r.same, r.deep, r.fewer))

-- what is asked for next stands: it is found again, and who asks for it goes on
again_on : {L : Language} (rules : Rules L) (item : Item) (many : ℕ) (below : List (AskFrame L.Value)) (top : AskFrame L.Value) (e : ℕ) (s t : SessionState L) (turn : Turn L.Value L.Thrown) (after : List (AskFrame L.Value)) → Asks rules item many rules.depth below top e s → IsTurn rules item many (below ++ top ∷ []) (fresh_frame e (item.requests e)) s turn after t → IsTurn rules item many below top s turn after t
again_on rules item many below top e s t (Goes next) after r h =
    let l = r.fewer in
    let m = h.2 in
    (r.same ∙ h.0, h.1, omega (arith, l, m))
again_on rules item many below top e s t (Done a) after r h = r.same ∙ h

pub found_again : {L : Language} (rules : Rules L) (item : Item) (many : ℕ) (below after : List (AskFrame L.Value)) (top : AskFrame L.Value) (e : ℕ) (a : CodeAnswer L.Value L.Thrown) (turn : Turn L.Value L.Thrown) (s t : SessionState L) → AsksKnown item many → IsWithinDepth rules item many rules.depth below top → wants top ≡ e ∷ wants_then top → ((d : ℕ) → ((x : ℕ) → IsMember x (item.requests e) → IsWellScoped rules item d x) → demand rules item (suc d) e s ≡ reply (answer_in rules a) t) → IsHanded (below ++ top ∷ []) a turn after → IsTurn rules item many below top s turn after t
found_again {L} rules item many below after top e a turn s t known deep w stood h =
    let r = asks rules item many rules.depth below top e s known w deep in
    again_on rules item many below top e s t turn after r
    (handed_over rules item many (below ++ top ∷ []) after (fresh_frame e (item.requests e)) a turn s t r.deep (λ d ready. stood d (λ x m. (ready x m).1)) h)

-- what is asked for next, and what asks, are definitions of the table
pub next_low : {L : Language} (rules : Rules L) (item : Item) (many depth : ℕ) (below : List (AskFrame L.Value)) (top : AskFrame L.Value) (e : ℕ) → IsWithinDepth rules item many depth below top → wants top ≡ e ∷ wants_then top → e < many
next_low rules item many zero below top e deep w = absurd deep
next_low rules item many (suc depth) [] top e deep w = (deep.1 e (subst (λ (l : List ℕ). IsMember e l) (sym w) (inl refl))).0
next_low rules item many (suc depth) (f ∷ below) top e deep w = next_low rules item many depth below top e deep.2 w

pub top_low : {L : Language} (rules : Rules L) (item : Item) (many depth : ℕ) (below : List (AskFrame L.Value)) (top : AskFrame L.Value) → IsWithinDepth rules item many depth below top → top.def < many
top_low rules item many zero below top deep = absurd deep
top_low rules item many (suc depth) [] top deep = deep.0
top_low rules item many (suc depth) (f ∷ below) top deep = top_low rules item many depth below top deep.2

-- the first that asks
pub first_deep : {L : Language} (rules : Rules L) (item : Item) (many d : ℕ) (below : List (AskFrame L.Value)) (top : AskFrame L.Value) (requests : List ℕ) → AsksKnown item many → IsReady rules item many rules.depth d → below ≡ [] → top ≡ fresh_frame d requests → requests ≡ item.requests d → IsWithinDepth rules item many rules.depth below top
first_deep {L} rules item many d below top requests known ready eb e er =
    subst (λ (b : List (AskFrame L.Value)). IsWithinDepth rules item many rules.depth b top) (sym eb)
    (subst (λ (x : AskFrame L.Value). IsWithinDepth rules item many rules.depth [] x) (sym (e ∙ ap (λ (l : List ℕ). fresh_frame d l) er)) (opened_deep rules item many rules.depth d known ready))

pub first_same : {L : Language} (rules : Rules L) (item : Item) (d : ℕ) (below : List (AskFrame L.Value)) (top : AskFrame L.Value) (requests : List ℕ) (s : SessionState L) → below ≡ [] → top ≡ fresh_frame d requests → requests ≡ item.requests d → demand rules item rules.depth d s ≡ left_of rules item rules.depth below top s
first_same {L} rules item d below top requests s eb e er =
    opened_demand rules item rules.depth d s
    ∙ (ap (λ (x : AskFrame L.Value). left_of rules item rules.depth [] x s) (sym (e ∙ ap (λ (l : List ℕ). fresh_frame d l) er))
    ∙ ap (λ (b : List (AskFrame L.Value)). left_of rules item rules.depth b top s) (sym eb))

-- what a turn leaves, where it goes on and where it is done
module _ {L : Language} (rules : Rules L) (item : Item) (many : ℕ) (below : List (AskFrame L.Value)) (top : AskFrame L.Value) (s : SessionState L) (turn : Turn L.Value L.Thrown) (after : List (AskFrame L.Value)) (t : SessionState L) where
  pub goes_same : (next : AskFrame L.Value) → turn ≡ Goes next → IsTurn rules item many below top s turn after t → left_of rules item rules.depth below top s ≡ left_of rules item rules.depth after next t
  goes_same next e h = (subst (λ (x : Turn L.Value L.Thrown). IsTurn rules item many below top s x after t) e h).0

  pub goes_deep : (next : AskFrame L.Value) → turn ≡ Goes next → IsTurn rules item many below top s turn after t → IsWithinDepth rules item many rules.depth after next
  goes_deep next e h = (subst (λ (x : Turn L.Value L.Thrown). IsTurn rules item many below top s x after t) e h).1

  pub goes_fewer : (next : AskFrame L.Value) → turn ≡ Goes next → IsTurn rules item many below top s turn after t → stack_turns item rules.depth after next < stack_turns item rules.depth below top
  goes_fewer next e h = (subst (λ (x : Turn L.Value L.Thrown). IsTurn rules item many below top s x after t) e h).2

  pub done_same : (a : CodeAnswer L.Value L.Thrown) → turn ≡ Done a → IsTurn rules item many below top s turn after t → left_of rules item rules.depth below top s ≡ reply (answer_in rules a) t
  done_same a e h = subst (λ (x : Turn L.Value L.Thrown). IsTurn rules item many below top s x after t) e h

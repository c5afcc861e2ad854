-- What the closure of an item has is ready to be demanded.
use Rattle.std.proofs.Common.{◌≡◌, ℕ, ◌<◌, ◌≤◌, List, length, sym, subst}
use Rattle.session_types.specs.Members.{IsMember}
use Rattle.session_types.specs.Scopes.{rank}
use Rattle.session_types.specs.declared.scope.Scope.{Scope}
use Rattle.session_types.proofs.Lists.{In-among, among-In}
use Rattle.session_rules.specs.World.{Language, Rules}
use Rattle.session_rules.specs.Fits.{Directly, Further, IsValidClosure, DependsOn}
use Rattle.session_rules.proofs.Closure.{closure_settled}
use Rattle.fixture_table.specs.Nearest.{def_at}
use Rattle.fixture_table.specs.Faults.{Once, RequestPath as ReachedBy, CanBeSetUp, requests}
use Rattle.fixture_table.specs.Tables.{TableValue}
use Rattle.fixture_table.proofs.Reached.{reaches_more}
use Rattle.fixture_instances.specs.declared.items.ItemRef.{ItemRef}
use Rattle.setup_stack.specs.Asking.{IsReady}
use Rattle.fixture_instances.specs.Items.{bound_names, item_for_session, requests_in}
use Rattle.setup_stack.specs.Scopes.{HasScopes}

reached : (asked : ℕ → List ℕ) (d e : ℕ) → DependsOn asked d e → ReachedBy asked d e
reached asked d e (Directly _ m) = Once d e (In-among e (asked d) m)
reached asked d f (Further e _ r m) = reaches_more asked d e f (reached asked d e r) (In-among f (asked e) m)

pub closure_fits : {L : Language} (rules : Rules L) (table : TableValue) (item : ItemRef L.Value) (ids : List ℕ) → HasScopes rules table → rules.depth ≡ length table.defs → ((d : ℕ) → IsMember d ids → d < length table.defs) → CanBeSetUp table.nodes table.defs item.node (bound_names item.bound) ids → IsValidClosure rules (item_for_session table item) ids
unfolding requests_in
closure_fits rules table item ids scopes deep within s =
    let asked : ℕ → List ℕ = requests table.nodes table.defs item.node (bound_names item.bound) in
    let whole : (d e : ℕ) → IsMember d ids → IsMember e (asked d) → IsMember e ids = λ d e m n. among-In e ids (s.within d e (In-among d ids m) (In-among e (asked d) n)) in
    record {
      known = λ d m. subst (λ (n : ℕ). d < n) (sym deep) (within d m);
      whole = whole;
      scopes = λ d e m n.
          (let low = s.broader d e (In-among d ids m) (In-among e (asked d) n) in
          let high = subst (λ (x : Scope). rank (def_at table.defs e).scope ≤ rank x) (sym (scopes d (within d m))) low in
          subst (λ (x : Scope). rank x ≤ rank (rules.scope d)) (sym (scopes e (within e (whole d e m n)))) high);
      acyclic = λ d m r. s.apart d (In-among d ids m) (reached asked d d r);
    }

-- with as many definitions as the table has
pub closure_ready : {L : Language} (rules : Rules L) (table : TableValue) (item : ItemRef L.Value) (ids : List ℕ) → HasScopes rules table → rules.depth ≡ length table.defs → ((d : ℕ) → IsMember d ids → d < length table.defs) → CanBeSetUp table.nodes table.defs item.node (bound_names item.bound) ids → (d : ℕ) → IsMember d ids → IsReady rules (item_for_session table item) (length table.defs) rules.depth d
closure_ready rules table item ids scopes deep within s d m = (
  within d m,
  closure_settled rules (item_for_session table item) ids (closure_fits rules table item ids scopes deep within s) d m,
)

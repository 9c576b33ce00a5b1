-- The roles that are reached from some.
use Rattle.std.proofs.Common.{◌≡◌, ℕ, ◌+◌, ◌<◌, ◌⊎◌, ◌↔◌, inl, inr, true, false, List, length, ◌≤◌, sym, subst, arith}
use Rattle.std.proofs.lemmas.Bool.{cases_eq, cases_lt}
use Rattle.dl_base.specs.Completion.{RolePoints, IsLive}
use Rattle.dl_base.specs.Completion as completion
use Rattle.dl_base.specs.Ontology.{Terminology}
use Rattle.dl_base.specs.Sets.{HasRole}
use Rattle.dl_base.specs.declared.concept.Role.{Role}
use Rattle.dl_base.specs.declared.row.NamedRow.{NamedRow}
use Rattle.role_graph.specs.Graph.{Graph, IsGraphOf, HasNode}
use Rattle.role_graph.specs.Reached.{ArePointedTo, IsReached, first, next}
use Rattle.role_graph.proofs.PointsLemmas.{no_point, pointed_inside}
use Rattle.dl_base.proofs.RoleLemmas.{direct_or_inverse}

-- what is live and what is done, on the way
pub record AreReached (o : Terminology) (from live done : List ℕ) : Type 0 where
  pub grows : (r : Role) → HasRole from r → HasRole live r
  pub sound : (r : Role) → HasRole live r → IsReached o (HasRole from) r
  pub followed : (s r : Role) → HasRole done s → RolePoints o s r → HasRole live r

pub reached_none : (o : Terminology) (from done : List ℕ) → ((r : Role) → HasRole done r → ⊥) → AreReached o from from done
reached_none o from done empty = record { grows = λ r has. has; sound = λ r has. first has; followed = λ s r has points. absurd (empty s has) }

pub reached_more : (o : Terminology) (from live done live' done' : List ℕ) (s : Role) → AreReached o from live done → HasRole live s → ((r : Role) → HasRole done' r ↔ ((r ≡ s) ⊎ HasRole done r))
    → ((r : Role) → HasRole live' r ↔ (RolePoints o s r ⊎ HasRole live r)) → AreReached o from live' done'
reached_more o from live done live' done' s are s_live dones lives = record {
  grows = λ r has. (lives r).1 (inr (are.grows r has));
  sound = λ r has. elim ((lives r).0 has) [ inl points ↦ next (are.sound s s_live) points | inr old ↦ are.sound r old ];
  followed = λ t r has points. elim ((dones t).0 has) [
    | inl here ↦ (lives r).1 (inl (subst (λ (u : Role). RolePoints o u r) here points))
    | inr old ↦ (lives r).1 (inr (are.followed t r old points))
  ];
}

-- where each live role of the graph is done, all that are reached are live
module _ (o : Terminology) (g : Graph) (is : IsGraphOf o g) (from live done : List ℕ) (are : AreReached o from live done) (ends : (r : Role) → HasNode g r → HasRole live r → HasRole done r) where
  complete : {r : Role} → IsReached o (HasRole from) r → HasRole live r
  complete {r} (first has) = are.grows r has
  complete {r} (next {s = s} before points) = by (cases_lt s.name (length g.closed)) (complete before)
    where
      by : (s.name < length g.closed) ⊎ (length g.closed ≤ s.name) → HasRole live s → HasRole live r
      by (inl there) s_live = are.followed s r (ends s there s_live) points
      by (inr past) s_live = absurd (no_point o g s r is (λ node. absurd (omega arith)) points)

  pub all_reached : (r : Role) → HasRole live r ↔ IsReached o (HasRole from) r
  all_reached r = (are.sound r, complete)

-- from roles of the graph only roles of the graph are reached
module _ (o : Terminology) (g : Graph) (is : IsGraphOf o g) (from : Role → Type 0) (inside : (r : Role) → from r → HasNode g r) where
  pub reached_inside : {r : Role} → IsReached o from r → HasNode g r
  reached_inside {r} (first has) = inside r has
  reached_inside {r} (next {s = s} before points) = pointed_inside o g s r is points

-- among the roles of the first so many names each live one is done
pub record AreDone (live done : List ℕ) (names : ℕ) : Type 0 where
  pub each : (r : Role) → r.name < names → HasRole live r → HasRole done r

pub done_none : (live done : List ℕ) → AreDone live done 0
done_none live done = record { each = λ r below. absurd (omega arith) }

pub done_both : (live done : List ℕ) (name : ℕ) → (HasRole live (record { name = name; inverse = false }) → HasRole done (record { name = name; inverse = false }))
    → (HasRole live (record { name = name; inverse = true }) → HasRole done (record { name = name; inverse = true })) → AreDone live done name → AreDone live done (name + 1)
done_both live done name direct inverse are = record {
  each = λ r below. elim (cases_eq r.name name) [
    | inr other ↦ are.each r (omega arith)
    | inl same ↦ elim (direct_or_inverse r name same) [
      | inl is ↦ subst (λ (t : Role). HasRole live t → HasRole done t) (sym is) direct
      | inr is ↦ subst (λ (t : Role). HasRole live t → HasRole done t) (sym is) inverse
    ]
  ];
}

-- the live roles are those that are reached from the roles to which individuals point
module _ (o : Terminology) (rows : List NamedRow) (from : Role → Type 0) (are : ArePointedTo o rows from) where
  live_reached : {r : Role} → IsReached o from r → IsLive o rows r
  live_reached {r} (first has) = let points = (are r).0 has in completion.first points.0 points.1
  live_reached {r} (next before points) = completion.next (live_reached before) points

  reached_live : {r : Role} → IsLive o rows r → IsReached o from r
  reached_live {r} (completion.first a points) = first ((are r).1 (a, points))
  reached_live {r} (completion.next before points) = next (reached_live before) points

  pub reached_is_live : (r : Role) → IsReached o from r ↔ IsLive o rows r
  reached_is_live r = (live_reached, reached_live)

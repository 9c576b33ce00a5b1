-- Entries that are made one by one.
use Rattle.std.proofs.Common.{◌≡◌, ℕ, ◌+◌, ◌<◌, ◌≤◌, List, [], ◌∷◌, ◌++◌, length, map, get_or, take, Option, All, sym, ◌∙◌, ap}
use Rattle.std.proofs.lemmas.List.{map-append, take_more, take_all}
use Rattle.std.proofs.lemmas.List.Elements.{All-contains, All-push, Contains-get_or}
use Rattle.tree_witness.specs.Trees.{IsOrientedBelow, IsTreeOf, IsTreeBelow, IsEntryBelow, AreEntries}
use Rattle.tree_witness.specs.declared.oriented.OrientedAtom.{OrientedAtom}
use Rattle.tree_witness.specs.declared.tree.ReachedTerm.{ReachedTerm}
use Rattle.tree_witness.specs.declared.trees.TreeEntry.{TreeEntry}

-- those of the first oriented atoms
pub record AreEntriesUpTo (terms : ℕ) (oriented : List OrientedAtom) (done : ℕ) (entries : List TreeEntry) : Type 0 where
  pub order : map (λ e. e.atom) entries ≡ take done oriented
  pub trees : All (λ e. IsTreeOf oriented e.atom e.tree) entries
  pub below : All (IsEntryBelow terms) entries

pub entries_more : (terms : ℕ) (oriented : List OrientedAtom) (done : ℕ) (entries : List TreeEntry) (d : OrientedAtom) (tree : Option (List ReachedTerm)) → done < length oriented → All (IsOrientedBelow terms) oriented
    → AreEntriesUpTo terms oriented done entries → IsTreeOf oriented (get_or oriented done d) tree → IsTreeBelow terms tree
    → AreEntriesUpTo terms oriented (done + 1) (entries ++ record { atom = get_or oriented done d; tree = tree } ∷ [])
entries_more terms oriented done entries d tree lt ends_below up_to is tree_below =
    let added : TreeEntry = record { atom = get_or oriented done d; tree = tree } in
    record {
      order = map-append (λ (e : TreeEntry). e.atom) entries (added ∷ []) ∙ (ap (◌++ get_or oriented done d ∷ []) up_to.order ∙ sym (take_more oriented done d lt));
      trees = All-push (λ (e : TreeEntry). IsTreeOf oriented e.atom e.tree) entries added up_to.trees is;
      below = All-push (IsEntryBelow terms) entries added up_to.below (All-contains (IsOrientedBelow terms) oriented (get_or oriented done d) ends_below (Contains-get_or oriented done d lt), tree_below);
    }

pub entries_all : (terms : ℕ) (oriented : List OrientedAtom) (done : ℕ) (entries : List TreeEntry) → length oriented ≤ done → AreEntriesUpTo terms oriented done entries → AreEntries terms oriented entries
entries_all terms oriented done entries most up_to = record { order = up_to.order ∙ take_all done oriented most; trees = up_to.trees; below = up_to.below }

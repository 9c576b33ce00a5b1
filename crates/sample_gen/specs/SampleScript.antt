-- The sample script of a size: an ontology, one transaction of as many changes as its size, three queries and a check.
use Rattle.std.specs.Prelude.{ℕ, zero, suc, ◌+◌, ◌*◌, ◌/◌, ◌%◌, ◌==◌, if◌then◌else◌, List, [], ◌∷◌, ◌++◌, map, codes}
use Rattle.std.specs.List.{flat_map, range_with_len}
use Rattle.std.specs.Fmt.{decimal}

-- the lines before the changes: the block of the ontology, and the transaction's begin
abbrev pub first_lines : List (List ℕ)
first_lines = codes "ontology"
    ∷ codes "SubClassOf(Prof Staff)"
    ∷ codes "SubClassOf(Prof Some(teaches))"
    ∷ codes "Domain(teaches Staff)"
    ∷ codes "Range(teaches Course)"
    ∷ codes "Disjoint(Staff Course)"
    ∷ codes "end"
    ∷ codes "begin 0"
    ∷ []

-- the lines behind them
abbrev pub last_lines : List (List ℕ)
last_lines = codes "commit 0"
    ∷ codes "ask q(?x) :- Staff(?x)"
    ∷ codes "ask q(?x) :- teaches(?x,?y), Course(?y)"
    ∷ codes "ask q(?x,?y) :- teaches(?x,?z), teaches(?y,?z)"
    ∷ codes "check"
    ∷ []

-- The numbers that choose the changes: the first one is the size, and each other is 75 times the one before it and 74, modulo
-- the prime 65,537.
abbrev pub chosen : ℕ → ℕ → ℕ
chosen size zero = size
chosen size (suc k) = (75 * chosen size k + 74) % 65537

-- the person of this number, and the course
abbrev pub person : ℕ → List ℕ
person k = codes "p" ++ decimal k

abbrev pub course : ℕ → List ℕ
course m = codes "c" ++ decimal m

-- What is added of a person: that they are a professor, or that they teach one of as many courses as the size, or that they are
-- of the staff.
abbrev pub change_line : ℕ → ℕ → ℕ → List ℕ
change_line size k x =
    if x % 3 == 0 then codes "add 0 Prof " ++ person k
    else if x % 3 == 1 then codes "add 0 teaches " ++ person k ++ codes " " ++ course ((x / 3) % size + 1)
    else codes "add 0 Staff " ++ person k

-- the line of each person, as its number chooses it, from 1 to the size
abbrev pub chosen_line : ℕ → ℕ → List ℕ
chosen_line size k = change_line size k (chosen size k)

abbrev pub change_lines : ℕ → List (List ℕ)
change_lines size = map (chosen_line size) (range_with_len 1 size)

-- a line with its end
abbrev pub ended : List ℕ → List ℕ
ended line = line ++ 10 ∷ []

abbrev pub script_lines : ℕ → List (List ℕ)
script_lines size = first_lines ++ change_lines size ++ last_lines

abbrev pub sample_script : ℕ → List ℕ
sample_script size = flat_map ended (script_lines size)

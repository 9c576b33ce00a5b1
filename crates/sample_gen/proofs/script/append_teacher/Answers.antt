use Rattle.std.proofs.Common.{◌≡◌, ◌++◌, ℕ, List, [], ◌∷◌, codes, ap, sym, ◌∙◌, append_assoc}
use Rattle.std.proofs.lemmas.Result.{on_ok_weaker}
use Rattle.sample_gen.specs.SampleScript.{course, ended, person}
use Rattle.sample_gen.proofs.script.append_teacher.Goals as goal

line_joined : (start words front back middle all : List ℕ) → middle ≡ start ++ (words ++ front) → all ≡ middle ++ ended (codes " " ++ back) → all ≡ start ++ ended (words ++ front ++ codes " " ++ back)
line_joined start words front back middle all was now =
    now ∙ ap (λ (l : List ℕ). l ++ ended (codes " " ++ back)) was
    ∙ append_assoc start (words ++ front) (ended (codes " " ++ back))
    ∙ ap (λ (l : List ℕ). start ++ l) (sym (append_assoc (words ++ front) (codes " " ++ back) (10 ∷ [])) ∙ ap ended (sym (append_assoc (words ++ front) (codes " ") back)))

pub returns : goal.returns
returns c = on_ok_weaker c.append_course.result
    (line_joined c.args.script.now.items (codes "add 0 teaches ") (person c.args.number) (course c.args.taught) c.append_person.new.script.items c.append_course.new.script.items c.in_ok-append_person.ensures)
    c.append_course.ensures

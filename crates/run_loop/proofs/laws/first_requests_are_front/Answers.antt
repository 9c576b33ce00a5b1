use Rattle.std.proofs.Common.{◌≡◌, ℕ, List, [], ◌++◌, Bool, true, false, refl, sym, ◌∙◌, ap, subst, append_assoc}
use Rattle.std.proofs.lemmas.List.{append-nil}
use Rattle.script_reader.specs.RequestLaws.{HasOneList, RequestsGoOn}
use Rattle.script_reader.specs.Requests.{AreRequests}
use Rattle.script_reader.specs.declared.request.Request.{Request}
use Rattle.run_loop.specs.Laws.{FirstRequestsAreFront}
use Rattle.run_loop.proofs.laws.first_requests_are_front.Goals as goal

are_front : HasOneList → RequestsGoOn → FirstRequestsAreFront
are_front once on read rest requests all f are = by f.first.whole refl
  where
    by : (w : Bool) → f.first.whole ≡ w → (later : List Request) × (all ≡ requests ++ later)
    by false is =
        on f.first.front (f.first.more ++ rest) true requests all (subst (λ (b : Bool). AreRequests f.first.front b requests) is f.first.are)
        (subst (λ (l : List ℕ). AreRequests l true all) (ap (λ (l : List ℕ). l ++ rest) f.first.parts ∙ append_assoc f.first.front f.first.more rest) are)
    by true is =
        let end = f.first.at_end is in
        let over : rest ≡ [] = f.at_end end.0 in
        let same : read ++ rest ≡ f.first.front = ap (λ (l : List ℕ). read ++ l) over ∙ append-nil read ∙ f.first.parts ∙ ap (λ (l : List ℕ). f.first.front ++ l) end.1 ∙ append-nil f.first.front in
        ([], once f.first.front true all requests (subst (λ (l : List ℕ). AreRequests l true all) same are) (subst (λ (b : Bool). AreRequests f.first.front b requests) is f.first.are) ∙ sym (append-nil requests))

pub returns : goal.returns
returns c = are_front c.has_one_list.ensures c.requests_go_on.ensures

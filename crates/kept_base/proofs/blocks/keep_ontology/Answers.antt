use Rattle.std.proofs.Common.{inl, inr}
use Rattle.kept_base.proofs.blocks.keep_ontology.Goals as goal

pub returns-in-Err-NoMemory-clause-untouched : goal.returns-in-Err-NoMemory-clause-untouched
returns-in-Err-NoMemory-clause-untouched g c = λ yes. elim c.in-Err-NoMemory.ensures.untouched [ inl e ↦ absurd (let fault = e in cc) | inr same ↦ same ]

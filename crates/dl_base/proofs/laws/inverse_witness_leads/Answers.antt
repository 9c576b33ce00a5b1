use Rattle.dl_base.proofs.TableExamples.{inverse_witness_leads}
use Rattle.dl_base.proofs.laws.inverse_witness_leads.Goals as goal

pub returns : goal.returns
returns c = inverse_witness_leads

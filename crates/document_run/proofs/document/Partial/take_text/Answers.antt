use Rattle.document_run.proofs.LineTaking.{large_fault, unsafe_fault}
use Rattle.document_run.proofs.document.Partial.take_text.Goals as goal

pub returns-in-Err-TooLarge : goal.returns-in-Err-TooLarge
returns-in-Err-TooLarge c = λ lines next.
    c.refuse_query.ensures lines c.args.text.now next (large_fault c.args.text.now c.in-Err-TooLarge.field-0 c.in-Err-TooLarge.field-0-is c.in-Err-TooLarge.ensures.fault)

pub returns-in-Err-Unsafe : goal.returns-in-Err-Unsafe
returns-in-Err-Unsafe c = λ lines next.
    c.refuse_query-in-Err-Unsafe.ensures lines c.args.text.now next
    (unsafe_fault c.args.text.now c.in-Err-Unsafe.field-0 c.in-Err-Unsafe.field-0-0 c.in-Err-Unsafe.field-0-is c.in-Err-Unsafe.ensures.fault)

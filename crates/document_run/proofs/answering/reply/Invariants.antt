use Rattle.document_run.proofs.answering.reply.Given as goal

abbrev pub ghosts-document_reply : goal.ghosts-document_reply
ghosts-document_reply g a = record { name = a.blank.name; parts = a.blank.parts }

-- What printing a text or a reply does to a host.
use Rattle.std.specs.Prelude.{◌≡◌, ◌⊎◌, ◌++◌, ℕ, List, Option, Some, Result, Err, IfErr, OnOk}
use Rattle.std.specs.Option.{ForSome}
use Rattle.host_io.specs.Disk.{Disk}
use Rattle.host_io.specs.Host.{ShowsFront}
use Rattle.host_io.specs.Moments.{Leaves, Left, LeavesOnly}
use Rattle.reply_text.specs.ReplyText.{IsAcknowledgement, text_of_reply}
use Rattle.reply_text.specs.declared.reply.Reply.{Reply}
use Rattle.run_loop.specs.declared.fault.Fault.{Fault}
use Rattle.run_loop.specs.declared.fault.Fault.TheVariants as fault

module _ {H : Type 0} (disk : H → Option Disk) (printed : H → Option (List ℕ)) (clock : H → ℕ) (might : H → ℕ → Left → Type 0) where
  -- The disk is as it was, and a stop at any moment leaves a front of the text behind what was printed.
  pub record Shows (text : List ℕ) (old new : H) : Type 0 where
    pub disk_stays : disk new ≡ disk old
    pub moments : ForSome (printed old) (λ before. LeavesOnly clock might old new (Leaves (disk old) (λ seen. ShowsFront before text (Some seen))))

  -- the text was printed whole
  pub record PrintsWhole (text : List ℕ) (old new : H) : Type 0 where
    pub shows : Shows text old new
    pub now : ForSome (printed old) (λ before. printed new ≡ Some (before ++ text))

  -- a front of the text was printed
  pub record PrintsPart (text : List ℕ) (old new : H) : Type 0 where
    pub shows : Shows text old new
    pub now : ForSome (printed old) (λ before. ShowsFront before text (printed new))

  -- A reply is printed whole, or printing failed within it, or there was no memory for its text, and then nothing happened; an
  -- acknowledgement takes none.
  pub record PrintsReply {T : Type 0} (reply : Reply) (result : Result T Fault) (old new : H) : Type 0 where
    pub whole : OnOk result (PrintsWhole (text_of_reply reply) old new)
    pub part : result ≡ Err fault.Print → PrintsPart (text_of_reply reply) old new
    pub wanted : result ≡ Err fault.Memory → (new ≡ old) × (IsAcknowledgement reply → ⊥)
    pub only : IfErr result (λ f. (f ≡ fault.Print) ⊎ (f ≡ fault.Memory))

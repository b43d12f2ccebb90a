use Rattle.std.proofs.Common.{◌∙◌, sym, rules}
use Rattle.regular.specs.Bytes.{read}
use Rattle.regular_change.proofs.Acts.{first-none}
use Rattle.rx_msg.proofs.Polling.{activation-front, still_ends}
use Rattle.rx_msg.proofs.regular_inner.pop_registration.Goals as goal

pub returns-in_err-entry : goal.returns-in_err-entry
returns-in_err-entry c =
    let s = c.args.s.now in
    still_ends s (search rules) c.requires.0 c.requires.1 (first-none (read s).activation (sym (activation-front s c.requires.0) ∙ sym c.inner_front.ensures ∙ c.in_err-entry.was)) _ c.from_residual.ensures

pub pop_registration_queue-requires : goal.pop_registration_queue-requires
pop_registration_queue-requires c = (c.requires.0, (c.requires.1, sym (activation-front c.args.s.now c.requires.0) ∙ sym c.inner_front.ensures ∙ c.in_ok-entry.was))

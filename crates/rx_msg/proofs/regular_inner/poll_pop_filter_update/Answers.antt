use Rattle.std.proofs.Common.{◌∙◌, sym}
use Rattle.regular.specs.Bytes.{read}
use Rattle.regular_change.proofs.Acts.{first-none}
use Rattle.rx_msg.proofs.Polling.{clean_up_front, flag-set, flag-clear}
use Rattle.rx_msg.proofs.regular_inner.poll_pop_filter_update.Goals as goal

pub pop_clean_up_queue-requires : goal.pop_clean_up_queue-requires
pop_clean_up_queue-requires c = (c.requires, sym (clean_up_front c.args.s.now c.requires) ∙ sym c.inner_front.ensures ∙ c.in-Some.is)

pub pop_clean_up_last-requires : goal.pop_clean_up_last-requires
pop_clean_up_last-requires c =
    let s = c.args.s.now in
    (c.requires, (first-none (read s).clean_up (sym (clean_up_front s c.requires) ∙ sym c.inner_front.ensures ∙ c.in_default.is), flag-set _ c.if-s-ne0.true))

pub pop_registration-requires : goal.pop_registration-requires
pop_registration-requires c =
    let s = c.args.s.now in (
      c.requires,
      record { marks = first-none (read s).clean_up (sym (clean_up_front s c.requires) ∙ sym c.inner_front.ensures ∙ c.in_default.is); flag = flag-clear _ c.if-s-ne0.false },
    )

use Rattle.pytest_core.proofs.WordsUnread.{unread_wrote}
use Rattle.pytest_core.proofs.unread.refuse_unread_words.Goals as goal

pub returns-in-Ok-put_all-clause-report : goal.returns-in-Ok-put_all-clause-report
returns-in-Ok-put_all-clause-report g c =
    unread_wrote c.deref.result.now c.in-Ok.response.0.items c.in-Ok.response.1 (g.S.Sink.told c.args.out.now) (g.S.Sink.told c.put_all.new.out) c.deref.ensures.value c.in-Ok.ensures.response c.in-Ok-put_all.ensures.ok

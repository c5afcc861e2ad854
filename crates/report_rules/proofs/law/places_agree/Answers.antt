use Rattle.report_rules.proofs.Headline.{workers_placed}
use Rattle.report_rules.proofs.Placed.{no_place, told_places}
use Rattle.report_rules.proofs.law.places_agree.Goals as goal

pub returns : goal.returns
returns g c = record {
  placed = λ rules options collected taken some t. workers_placed rules options collected taken some t;
  as_many = λ profile options collected taken some t. told_places g.W.Tests.holds profile options collected taken (workers_placed (profile.rules options collected.table) options collected taken some t);
  none = λ profile options collected taken none. no_place g.W.Tests.holds profile options collected taken none;
}

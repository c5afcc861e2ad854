use Rattle.std.proofs.Common.{le_refl}
use Rattle.share_files.proofs.Dealt.{length-lists_from, lists_rise, deal_law}
use Rattle.share_files.proofs.laws.deal_law.Goals as goal

pub returns : goal.returns
returns c = record {
  workers = λ n draws. length-lists_from 0 n n draws;
  rising = λ n draws. lists_rise n 0 n n draws (le_refl n);
  once = deal_law;
}

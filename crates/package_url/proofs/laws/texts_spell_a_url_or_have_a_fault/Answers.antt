use Rattle.package_url.proofs.Written.{reads, spelled, read_again}
use Rattle.package_url.proofs.Faults.{read_fault, is_read, either, never_both, one_url, one_fault}
use Rattle.package_url.proofs.laws.texts_spell_a_url_or_have_a_fault.Goals as goal

pub returns : goal.returns
returns c = record {
  url = λ text url. (reads text url, spelled text url);
  fault = λ text fault. (read_fault text fault, is_read text fault);
  either = either;
  never_both = never_both;
  one_url = one_url;
  one_fault = one_fault;
  read_again = read_again;
}

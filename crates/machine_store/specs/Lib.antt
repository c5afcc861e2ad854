pub use Rattle.machine_immediate.specs as machine_immediate

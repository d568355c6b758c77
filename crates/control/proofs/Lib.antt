mod Keyed
